-- Reading the bytes of a change from left to right, field by field: the first fault, and at one field the one with
-- the lowest number.
use Rattle.std.specs.Prelude.{ℕ, zero, suc, ◌+◌, ◌-◌, min, List, length, Bool, true, Option, Some, None, Result, Ok, Err, nat_lt, nat_le, ◌==◌, ◌||◌, if◌then◌else◌}
use Rattle.std.specs.Int.{w16, w32, w64}
use Rattle.std.specs.Ordering.{is_lt}
use Rattle.tp_codec.specs.Prefix.{byte_at, bytes_at, number_at}
use Rattle.tp_codec.specs.Reading.{Reads, ◌>>=◌, ◌>>◌, give, fail, or_fail, require, repeat_at, text_at}
use Rattle.tp_opid.specs.declared.actor.Actor.{Actor}
use Rattle.tp_opid.specs.declared.hash.Hash.{Hash}
use Rattle.tp_opid.specs.declared.op_id.OpId.{OpId}
use Rattle.tp_opid.specs.declared.op_id.Place.{Place}
use Rattle.tp_opid.specs.declared.op_id.Place.TheVariants.{Start, After}
use Rattle.tp_opid.specs.Order.{hash_cmp}
use Rattle.tp_layout.specs.declared.limits.TheConstants.{MAX_BYTES, MAX_OPS, COUNTERS_END}
use Rattle.tp_layout.specs.declared.error.ChangeError.{ChangeError}
use Rattle.tp_layout.specs.declared.error.ChangeError.TheVariants.{Version, Short, Trailing, ZeroSeqOrStart, BadUtf8, DepsOrder, NoRecords, BadTag, EmptyRun, Limit, NoRun}
use Rattle.tp_layout.specs.declared.record.Record.{Record}
use Rattle.tp_layout.specs.declared.record.Record.TheVariants.{Insert, Delete, DeleteRun}
use Rattle.tp_layout.specs.declared.parts.ChangeParts.{ChangeParts}
use Rattle.tp_layout.specs.Counts.{count_in}
use Rattle.tp_layout.specs.Spelling.{version_of}

-- the version byte: 1, or 2 with runs of deletes
unfoldable pub version_at : Reads ChangeError ℕ
version_at = do
  version ← or_fail Short byte_at
  require (version == 1 || version == 2) Version
  give version

-- 16 bytes
unfoldable pub actor_at : Reads ChangeError Actor
actor_at = do
  bytes ← or_fail Short (bytes_at 16)
  give (record { 0 = bytes })

-- 32 bytes
unfoldable pub hash_at : Reads ChangeError Hash
hash_at = do
  bytes ← or_fail Short (bytes_at 32)
  give (record { 0 = bytes })

-- a counter and an actor, neither of them validated
unfoldable pub id_at : Reads ChangeError OpId
id_at = do
  counter ← or_fail Short (number_at w64)
  actor ← actor_at
  give (record { counter = counter; actor = actor })

-- the sequence number
unfoldable pub seq_at : Reads ChangeError ℕ
seq_at = do
  seq ← or_fail Short (number_at w64)
  require (nat_le 1 seq) ZeroSeqOrStart
  give seq

-- the counter of the first operation, at most 2^48 - 1
unfoldable pub start_at : Reads ChangeError ℕ
start_at = do
  start ← or_fail Short (number_at w64)
  require (nat_le 1 start) ZeroSeqOrStart
  require (nat_lt start COUNTERS_END) Limit
  give start

-- the hash is greater than the one before it
abbrev pub rises : Option Hash → Hash → Bool
rises None h = true
rises (Some before) h = is_lt (hash_cmp before h)

-- a dependency, above the one before it
unfoldable pub dep_at : Option Hash → Reads ChangeError Hash
dep_at before = do
  h ← hash_at
  require (rises before h) DepsOrder
  give h

abbrev pub next_before : Option Hash → Hash → Option Hash
next_before before h = Some h

-- a count and the dependencies
unfoldable pub deps_at : Reads ChangeError (List Hash)
deps_at = do
  count ← or_fail Short (number_at w16)
  repeat_at dep_at next_before count None

-- what follows a reference's tag
unfoldable pub place_after_tag : ℕ → Reads ChangeError Place
place_after_tag zero = give Start
place_after_tag (suc zero) = do
  id ← id_at
  give (After id)
place_after_tag (suc (suc tag)) = fail BadTag

unfoldable pub place_at : Reads ChangeError Place
place_at = do
  tag ← or_fail Short byte_at
  place_after_tag tag

-- an insert run, where room is how many operations may still come
unfoldable pub insert_at : ℕ → Reads ChangeError Record
insert_at room = do
  after ← place_at
  text ← text_at Short BadUtf8 w32
  require (nat_le 1 (length text)) EmptyRun
  require (nat_le (length text) room) Limit
  give (Insert after text)

-- a delete
unfoldable pub delete_at : ℕ → Reads ChangeError Record
delete_at room = do
  require (nat_le 1 room) Limit
  target ← id_at
  give (Delete target)

-- a run of deletes, where the version has them
unfoldable pub delete_run_at : Bool → ℕ → Reads ChangeError Record
delete_run_at runs room = do
  require runs BadTag
  first ← id_at
  count ← or_fail Short (number_at w32)
  require (nat_le 2 count) EmptyRun
  require (nat_le count room) Limit
  require (nat_le (first.counter + count) COUNTERS_END) Limit
  give (DeleteRun first count)

-- what follows a record's tag, where runs says whether the version has runs of deletes
unfoldable pub record_after_tag : Bool → ℕ → ℕ → Reads ChangeError Record
record_after_tag runs room zero = fail BadTag
record_after_tag runs room (suc zero) = insert_at room
record_after_tag runs room (suc (suc zero)) = delete_at room
record_after_tag runs room (suc (suc (suc zero))) = delete_run_at runs room
record_after_tag runs room (suc (suc (suc (suc tag)))) = fail BadTag

unfoldable pub record_at : Bool → ℕ → Reads ChangeError Record
record_at runs room = do
  tag ← or_fail Short byte_at
  record_after_tag runs room tag

abbrev pub room_after : ℕ → Record → ℕ
room_after room r = room - count_in r

-- a count and the records
unfoldable pub records_at : Bool → ℕ → Reads ChangeError (List Record)
records_at runs room = do
  count ← or_fail Short (number_at w32)
  require (nat_le 1 count) NoRecords
  require (nat_le count MAX_OPS) Limit
  repeat_at (record_at runs) room_after count room

-- How many operations a change may have whose first counter is start: at most 65,536, the last counter at most
-- 2^48 - 1.
abbrev pub room_from : ℕ → ℕ
room_from start = min MAX_OPS (COUNTERS_END - start)

-- all that follows the version
unfoldable pub parts_at : Bool → Reads ChangeError ChangeParts
parts_at runs = do
  actor ← actor_at
  seq ← seq_at
  start ← start_at
  time ← or_fail Short (number_at w64)
  message ← text_at Short BadUtf8 w16
  deps ← deps_at
  records ← records_at runs (room_from start)
  give (record { actor = actor; seq = seq; start = start; time = time; message = message; deps = deps; records = records })

-- a version and the parts at the start of size bytes
unfoldable pub sized_at : ℕ → Reads ChangeError (ℕ × ChangeParts)
sized_at size = do
  version ← version_at
  require (nat_le size MAX_BYTES) Limit
  parts ← parts_at (version == 2)
  give (version, parts)

-- The version is that of the records. Where it was read with them, the one that isn't is 2 where none is a run.
unfoldable pub check_version : ℕ × ChangeParts → Result ChangeParts ChangeError
check_version x = if x.0 == version_of x.1.records then Ok x.1 else Err NoRun

-- Nothing follows, and then the version is that of the records.
unfoldable pub end_of_change : Result ((ℕ × ChangeParts) × List ℕ) ChangeError → Result ChangeParts ChangeError
end_of_change (Ok x) = if length x.1 == 0 then check_version x.0 else Err Trailing
end_of_change (Err e) = Err e

-- the change that the bytes are, or the first fault
unfoldable pub change_at : List ℕ → Result ChangeParts ChangeError
change_at bytes = end_of_change (sized_at (length bytes) bytes)
