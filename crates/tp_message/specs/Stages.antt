-- What is still read of a message at each stage of its reading, where the parts that were read so far are given.
use Rattle.std.specs.Prelude.{ℕ, suc, List, [], ◌∷◌, ◌++◌, Bool, true, false, Option, Some, None}
use Rattle.tp_message.specs.Common.{Hash, ChangeParts, change_at, bytes_at, Reads, ◌>>=◌, give, fail, or_fail, repeat_at, next_before}
use Rattle.tp_message.specs.declared.limits.TheConstants.{MAX_HASHES, MAX_KNOWN}
use Rattle.tp_message.specs.declared.error.SyncError.{SyncError}
use Rattle.tp_message.specs.declared.error.SyncError.TheVariants.{BadMessage}
use Rattle.tp_message.specs.declared.stages.HashList.{HashList}
use Rattle.tp_message.specs.declared.stages.HashList.TheVariants.{Heads, Wants, Known}
use Rattle.tp_message.specs.declared.stages.Stage.{Stage}
use Rattle.tp_message.specs.declared.stages.Stage.TheVariants.{Version, Count, Hashes, ChangeCount, Length, Body, Whole, Failed}
use Rattle.tp_message.specs.Message.{MessageParts}
use Rattle.tp_message.specs.Reading.{message_version_at, next_hash_at, hashes_at, known_at, change_or_fail, each_entry, stay, changes_at}

-- the most hashes of a list
abbrev pub limit_of : HashList → ℕ
limit_of Heads = MAX_HASHES
limit_of Wants = MAX_HASHES
limit_of Known = MAX_KNOWN

-- how many bytes the field has that comes next
abbrev pub need : Stage → ℕ
need Version = 1
need (Count list) = 4
need (Hashes list before more) = 32
need ChangeCount = 4
need (Length more) = 4
need (Body len more) = len
need Whole = 0
need (Failed e) = 0

-- whether the message is whole
abbrev pub is_whole : Stage → Bool
is_whole Whole = true
is_whole stage = false

-- why the message was refused
abbrev pub fault_of_stage : Stage → Option SyncError
fault_of_stage (Failed e) = Some e
fault_of_stage stage = None

-- ---- what was read so far, with more after it

abbrev pub with_hashes : HashList → MessageParts → List Hash → MessageParts
with_hashes Heads m hashes = record m { heads = m.heads ++ hashes }
with_hashes Wants m hashes = record m { wants = m.wants ++ hashes }
with_hashes Known m hashes = record m { known = m.known ++ hashes }

abbrev pub with_changes : MessageParts → List ChangeParts → MessageParts
with_changes m changes = record m { changes = m.changes ++ changes }

-- ---- what is still read

unfoldable pub changes_from : MessageParts → Reads SyncError MessageParts
changes_from m = do
  changes ← changes_at
  give (with_changes m changes)

unfoldable pub known_from : MessageParts → Reads SyncError MessageParts
known_from m = do
  known ← known_at m.version
  changes_from (with_hashes Known m known)

unfoldable pub wants_from : MessageParts → Reads SyncError MessageParts
wants_from m = do
  wants ← hashes_at MAX_HASHES
  known_from (with_hashes Wants m wants)

unfoldable pub heads_from : MessageParts → Reads SyncError MessageParts
heads_from m = do
  heads ← hashes_at MAX_HASHES
  wants_from (with_hashes Heads m heads)

-- what follows a list of hashes
unfoldable pub rest_after_hashes : HashList → MessageParts → Reads SyncError MessageParts
rest_after_hashes Heads m = wants_from m
rest_after_hashes Wants m = known_from m
rest_after_hashes Known m = changes_from m

-- `count` hashes of a list, and what follows it
unfoldable pub hashes_from : HashList → Option Hash → ℕ → MessageParts → Reads SyncError MessageParts
hashes_from list before count m = do
  hashes ← repeat_at next_hash_at next_before count before
  rest_after_hashes list (with_hashes list m hashes)

-- `count` changes, each after its length
unfoldable pub entries_from : ℕ → MessageParts → Reads SyncError MessageParts
entries_from count m = do
  changes ← repeat_at each_entry stay count tt
  give (with_changes m changes)

-- what is still read at a stage
unfoldable pub rest_at : Stage → MessageParts → Reads SyncError MessageParts
rest_at Version m = do
  version ← message_version_at
  heads_from (record m { version = version })
rest_at (Count list) m = do
  hashes ← hashes_at (limit_of list)
  rest_after_hashes list (with_hashes list m hashes)
rest_at (Hashes list before more) m = hashes_from list before (suc more) m
rest_at ChangeCount m = changes_from m
rest_at (Length more) m = entries_from (suc more) m
rest_at (Body len more) m = do
  bytes ← or_fail BadMessage (bytes_at len)
  change ← change_or_fail (change_at bytes)
  entries_from more (with_changes m (change ∷ []))
rest_at Whole m = give m
rest_at (Failed e) m = fail e
