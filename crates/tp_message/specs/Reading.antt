-- Reading the bytes of a message from left to right, field by field, up to the first fault: BadChange where the bytes
-- of a change are no change's, and BadMessage for all else.
use Rattle.std.specs.Prelude.{ℕ, ◌==◌, ◌||◌, nat_le, List, [], length, Option, None, Result, Ok, Err, if◌then◌else◌}
use Rattle.tp_message.specs.Common.{w32, Hash, ChangeParts, change_at, bytes_at, Reads, ◌>>=◌, give, fail, or_fail, repeat_at, rises, next_before, byte_at, number_at, ◌>>◌, require}
use Rattle.tp_layout.specs.declared.error.ChangeError.{ChangeError}
use Rattle.tp_message.specs.declared.limits.TheConstants.{MAX_HASHES, MAX_KNOWN, MAX_CHANGES}
use Rattle.tp_message.specs.declared.error.SyncError.{SyncError}
use Rattle.tp_message.specs.declared.error.SyncError.TheVariants.{BadMessage, BadChange}
use Rattle.tp_message.specs.Message.{MessageParts}

-- the version byte is 1 or 2
unfoldable pub message_version_at : Reads SyncError ℕ
message_version_at = do
  version ← or_fail BadMessage byte_at
  require (version == 1 || version == 2) BadMessage
  give version

-- 32 bytes, above the hash before
unfoldable pub next_hash_at : Option Hash → Reads SyncError Hash
next_hash_at before = do
  bytes ← or_fail BadMessage (bytes_at 32)
  require (rises before (record { 0 = bytes })) BadMessage
  give (record { 0 = bytes })

-- a count of no more than the limit, and that many hashes
unfoldable pub hashes_at : ℕ → Reads SyncError (List Hash)
hashes_at limit = do
  count ← or_fail BadMessage (number_at w32)
  require (nat_le count limit) BadMessage
  repeat_at next_hash_at next_before count None

-- the hashes of known changes, which version 2 has alone
unfoldable pub known_at : ℕ → Reads SyncError (List Hash)
known_at version = if version == 2 then hashes_at MAX_KNOWN else give []

-- the change that bytes are
unfoldable pub change_or_fail : Result ChangeParts ChangeError → Reads SyncError ChangeParts
change_or_fail (Ok c) = give c
change_or_fail (Err e) = fail BadChange

-- a length, and a change of that many bytes
unfoldable pub framed_change_at : Reads SyncError ChangeParts
framed_change_at = do
  len ← or_fail BadMessage (number_at w32)
  bytes ← or_fail BadMessage (bytes_at len)
  change_or_fail (change_at bytes)

-- one change after another is read in the same way
abbrev pub each_entry : Unit {0} → Reads SyncError ChangeParts
each_entry s = framed_change_at

abbrev pub stay : Unit {0} → ChangeParts → Unit {0}
stay s c = s

-- a count, and that many changes
unfoldable pub changes_at : Reads SyncError (List ChangeParts)
changes_at = do
  count ← or_fail BadMessage (number_at w32)
  require (nat_le count MAX_CHANGES) BadMessage
  repeat_at each_entry stay count tt

unfoldable pub message_parts_at : Reads SyncError MessageParts
message_parts_at = do
  version ← message_version_at
  heads ← hashes_at MAX_HASHES
  wants ← hashes_at MAX_HASHES
  known ← known_at version
  changes ← changes_at
  give (record { version = version; heads = heads; wants = wants; known = known; changes = changes })

-- Nothing follows.
unfoldable pub end_or_fail : {X : Type 0} → Result (X × List ℕ) SyncError → Result X SyncError
end_or_fail (Ok x) = if length x.1 == 0 then Ok x.0 else Err BadMessage
end_or_fail (Err e) = Err e

-- the message that the bytes are, or the first fault
unfoldable pub message_at : List ℕ → Result MessageParts SyncError
message_at bytes = end_or_fail (message_parts_at bytes)
