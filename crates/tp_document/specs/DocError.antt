-- The numbers of the refusals, and what stands for those of the crates below.
use Rattle.std.specs.Prelude.{ℕ, Option, Some, None}
use Rattle.tp_receive.specs.declared.error.ReceiveError.{ReceiveError}
use Rattle.tp_receive.specs.declared.error.ReceiveError.TheVariants as receive
use Rattle.tp_snapshot.specs.declared.error.SnapshotError.{SnapshotError}
use Rattle.tp_snapshot.specs.declared.error.SnapshotError.TheVariants as snapshot
use Rattle.tp_document.specs.declared.error.DocError.{DocError}
use Rattle.tp_document.specs.declared.error.DocError.TheVariants.{OutOfRange, CounterLimit, TooManyOps, TooManyHeads, UnknownHead, UnknownElement, PendingFull, HashTaken, OutOfMemory, OtherDocument, TooLong, Full, NotKept}

abbrev pub code_of : DocError → ℕ
code_of OutOfRange = 1
code_of CounterLimit = 2
code_of TooManyOps = 3
code_of TooManyHeads = 4
code_of UnknownHead = 5
code_of UnknownElement = 6
code_of PendingFull = 7
code_of HashTaken = 8
code_of OutOfMemory = 9
code_of OtherDocument = 10
code_of TooLong = 11
code_of Full = 12
code_of NotKept = 13

-- the refusal of receiving that a refusal of a document is, if it is one
abbrev pub receiving : DocError → Option ReceiveError
receiving PendingFull = Some receive.PendingFull
receiving NotKept = Some receive.NotKept
receiving OutOfMemory = Some receive.OutOfMemory
receiving _ = None

-- the refusal that one of a snapshot is
abbrev pub refusal_of_snapshot : SnapshotError → DocError
refusal_of_snapshot snapshot.UnknownHead = UnknownHead
refusal_of_snapshot snapshot.OutOfMemory = OutOfMemory
