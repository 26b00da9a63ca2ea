-- What contracts see of a session.
use Rattle.std.specs.Prelude.{ℕ, ◌+◌, ◌-◌, ◌^◌, min, Option, Some, None}
use Rattle.tp_session.specs.Common.{DocId, Frame, Hello, ReaderState}
use Rattle.tp_session.specs.declared.session.Role.{Role}
use Rattle.tp_session.specs.declared.session.Role.TheVariants.{Client, Server}
use Rattle.tp_session.specs.declared.session.Phase.{Phase}
use Rattle.tp_session.specs.declared.session.Phase.TheVariants.{AwaitsHello}
use Rattle.tp_session.specs.declared.session.TheConstants.{VERSION}

-- Which side it is, the identifier of its document, how far it is, how many changes were applied here, and how far the
-- message of a sync frame was read that isn't whole yet.
pub record SessionState : Type 0 where
  pub role : Role
  pub id : DocId
  pub phase : Phase
  pub applied : ℕ
  pub reading : Option ReaderState

-- a session at its begin
abbrev pub new_session : Role → DocId → SessionState
new_session role id = record { role = role; id = id; phase = AwaitsHello; applied = 0; reading = None }

-- the hello of a side that holds the document
abbrev pub greeting : DocId → Frame
greeting id = Hello VERSION id

-- the frame with which a side begins
abbrev pub first_frame_of : Role → DocId → Option Frame
first_frame_of Client id = Some (greeting id)
first_frame_of Server id = None

-- the session, with n changes more, up to 2^64 - 1
abbrev pub counting : SessionState → ℕ → SessionState
counting s n = record s { applied = min (s.applied + n) (2 ^ 64 - 1) }
