-- Which refusals of a message are refusals of receiving its changes.
use Rattle.std.specs.Prelude.{Option, Some, None}
use Rattle.tp_receive.specs.declared.error.ReceiveError.{ReceiveError}
use Rattle.tp_receive.specs.declared.error.ReceiveError.TheVariants as receive
use Rattle.tp_message.specs.declared.error.SyncError.{SyncError}
use Rattle.tp_message.specs.declared.error.SyncError.TheVariants.{PendingFull, OutOfMemory, NotKept}

-- the refusal of receiving that a refusal is, if it is one
abbrev pub receive_error_of : SyncError → Option ReceiveError
receive_error_of PendingFull = Some receive.PendingFull
receive_error_of NotKept = Some receive.NotKept
receive_error_of OutOfMemory = Some receive.OutOfMemory
receive_error_of _ = None
