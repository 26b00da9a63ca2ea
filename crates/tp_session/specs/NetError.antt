-- The numbers of the errors, and the refusal that is due for each.
use Rattle.std.specs.Prelude.{ℕ, Option, Some, None}
use Rattle.tp_session.specs.Common.{FrameError, Refusal}
use Rattle.tp_frame.specs.declared.error.FrameError.TheVariants as fault
use Rattle.tp_frame.specs.declared.frame.Frame.{Frame as FrameOf}
use Rattle.tp_session.specs.declared.error.NetError.{NetError}
use Rattle.tp_session.specs.declared.error.NetError.TheVariants.{Io, Frame, OtherDocument, Version, Unexpected, RefusedByOther, Peer, OutOfMemory}
use Rattle.tp_session.specs.declared.reason.Reason.{Reason}
use Rattle.tp_session.specs.declared.reason.Reason.TheVariants as reason
use Rattle.tp_session.specs.Reason.{number_of, reason_of}

abbrev pub code_of : NetError → ℕ
code_of Io = 1
code_of Frame = 2
code_of OtherDocument = 3
code_of Version = 4
code_of Unexpected = 5
code_of (RefusedByOther code) = 6
code_of (Peer e) = 7
code_of OutOfMemory = 8

-- the frame that tells a reason
abbrev pub telling : Reason → Option FrameOf
telling r = Some (Refusal (number_of r))

-- The refusal that the other is due where a session ends so.
abbrev pub refusal_of : NetError → Option FrameOf
refusal_of Io = None
refusal_of Frame = telling reason.Malformed
refusal_of OtherDocument = telling reason.OtherDocument
refusal_of Version = telling reason.Version
refusal_of Unexpected = telling reason.Malformed
refusal_of (RefusedByOther code) = None
refusal_of (Peer e) = telling (reason_of e)
refusal_of OutOfMemory = telling reason.Other

-- the error for a fault of the framer: only want of memory isn't the other's
abbrev pub error_of_fault : FrameError → NetError
error_of_fault fault.OutOfMemory = OutOfMemory
error_of_fault _ = Frame
