-- The numbers of the refusals.
use Rattle.std.specs.Prelude.{ℕ}
use Rattle.tp_message.specs.declared.error.SyncError.{SyncError}
use Rattle.tp_message.specs.declared.error.SyncError.TheVariants.{BadMessage, BadChange, TooManyHeads, PendingFull, OutOfMemory, OtherDocument, NotKept}

abbrev pub code_of : SyncError → ℕ
code_of BadMessage = 1
code_of BadChange = 2
code_of TooManyHeads = 3
code_of PendingFull = 4
code_of OutOfMemory = 5
code_of OtherDocument = 6
code_of NotKept = 7
