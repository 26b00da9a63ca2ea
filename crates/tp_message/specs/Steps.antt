-- What the bytes of one field make of a stage.
use Rattle.std.specs.Prelude.{◌≡◌, ℕ, ◌+◌, ◌<◌, ◌≤◌, List, ◌++◌, length, Result, Ok, Err}
use Rattle.tp_message.specs.Common.{MAX_BYTES}
use Rattle.tp_message.specs.declared.error.SyncError.{SyncError}
use Rattle.tp_message.specs.declared.error.SyncError.TheVariants.{OutOfMemory}
use Rattle.tp_message.specs.declared.stages.Stage.{Stage}
use Rattle.tp_message.specs.declared.stages.Stage.TheVariants.{Whole, Failed}
use Rattle.tp_message.specs.Message.{MessageParts}
use Rattle.tp_message.specs.Reading.{end_or_fail}
use Rattle.tp_message.specs.Stages.{need, rest_at}

-- Whatever follows the field, it is read at the stage that was answered as it was after the field, or refused so.
abbrev pub Steps : Stage → MessageParts → List ℕ → Result Stage SyncError → MessageParts → Type 0
Steps stage before field (Ok next) after = (rest : List ℕ) → rest_at stage before (field ++ rest) ≡ rest_at next after rest
Steps stage before field (Err OutOfMemory) after = after ≡ before
Steps stage before field (Err e) after = (rest : List ℕ) → rest_at stage before (field ++ rest) ≡ Err e

-- Fewer bytes are held than the next field has, and the rest of it is among the bytes that are left; of a whole message
-- none are held or left.
abbrev pub IsWithinField : Stage → ℕ → ℕ → Type 0
IsWithinField Whole held left = (held ≡ 0) × (left ≡ 0)
IsWithinField (Failed e) held left = Unit {0}
IsWithinField stage held left = (held < need stage) × (need stage ≤ held + left) × (need stage ≤ MAX_BYTES)

-- What the field makes of the stage where `left` bytes are left after it: a refusal is that of whatever bytes they are.
abbrev pub Moves : Stage → MessageParts → List ℕ → ℕ → Result Stage SyncError → MessageParts → Type 0
Moves stage before field left (Ok next) after = Steps stage before field (Ok next) after × IsWithinField next 0 left
Moves stage before field left (Err OutOfMemory) after = after ≡ before
Moves stage before field left (Err e) after = (rest : List ℕ) → length rest ≡ left → end_or_fail (rest_at stage before (field ++ rest)) ≡ Err e
