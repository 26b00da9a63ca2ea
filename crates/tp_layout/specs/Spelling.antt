-- The bytes of a change: all numbers big-endian.
use Rattle.std.specs.Prelude.{ℕ, List, [], ◌∷◌, ◌++◌, length, encode_utf8_all, Bool, true, false, ◌||◌, if◌then◌else◌}
use Rattle.std.specs.List.{flat_map}
use Rattle.std.specs.Int.{w16, w32, w64, to_be_bytes}
use Rattle.tp_opid.specs.declared.hash.Hash.{Hash}
use Rattle.tp_opid.specs.declared.op_id.OpId.{OpId}
use Rattle.tp_opid.specs.declared.op_id.Place.{Place}
use Rattle.tp_opid.specs.declared.op_id.Place.TheVariants.{Start, After}
use Rattle.tp_layout.specs.declared.record.Record.{Record}
use Rattle.tp_layout.specs.declared.record.Record.TheVariants.{Insert, Delete, DeleteRun}
use Rattle.tp_layout.specs.declared.parts.ChangeParts.{ChangeParts}

-- a counter of 8 bytes and an actor of 16
abbrev pub spelling_of_id : OpId → List ℕ
spelling_of_id id = to_be_bytes w64 id.counter ++ id.actor.0

-- 00 for the start, or 01 and an identifier
abbrev pub spelling_of_place : Place → List ℕ
spelling_of_place Start = 0 ∷ []
spelling_of_place (After id) = 1 ∷ spelling_of_id id

-- a byte length of 4 bytes, and the UTF-8 of the characters
abbrev pub spelling_of_run : List ℕ → List ℕ
spelling_of_run text = to_be_bytes w32 (length (encode_utf8_all text)) ++ encode_utf8_all text

-- a byte length of 2 bytes, and the UTF-8 of the characters
abbrev pub spelling_of_message : List ℕ → List ℕ
spelling_of_message text = to_be_bytes w16 (length (encode_utf8_all text)) ++ encode_utf8_all text

-- tag 01 for an insert run, tag 02 for a delete, tag 03 for a run of deletes with its first target and its count
abbrev pub spelling_of_record : Record → List ℕ
spelling_of_record (Insert after text) = 1 ∷ (spelling_of_place after ++ spelling_of_run text)
spelling_of_record (Delete target) = 2 ∷ spelling_of_id target
spelling_of_record (DeleteRun first count) = 3 ∷ (spelling_of_id first ++ to_be_bytes w32 count)

-- a count of 2 bytes, and 32 bytes for each hash
abbrev pub spelling_of_deps : List Hash → List ℕ
spelling_of_deps deps = to_be_bytes w16 (length deps) ++ flat_map (λ (h : Hash). h.0) deps

-- a count of 4 bytes, and the records
abbrev pub spelling_of_records : List Record → List ℕ
spelling_of_records records = to_be_bytes w32 (length records) ++ flat_map spelling_of_record records

-- the record is a run of deletes
abbrev pub is_run : Record → Bool
is_run (Insert after text) = false
is_run (Delete target) = false
is_run (DeleteRun first count) = true

-- one of the records is a run of deletes
abbrev pub has_run : List Record → Bool
has_run [] = false
has_run (r ∷ rs) = is_run r || has_run rs

-- the version of a change with these records: 2 where one is a run of deletes, else 1
abbrev pub version_of : List Record → ℕ
version_of rs = if has_run rs then 2 else 1

-- the bytes of a change
unfoldable pub spelling : ChangeParts → List ℕ
spelling c = version_of c.records ∷ (c.actor.0 ++ (to_be_bytes w64 c.seq ++ (to_be_bytes w64 c.start ++ (to_be_bytes w64 c.time ++ (spelling_of_message c.message ++ (spelling_of_deps c.deps ++ spelling_of_records c.records))))))

-- a change after its length of 4 bytes
abbrev pub framed_change : ChangeParts → List ℕ
framed_change c = to_be_bytes w32 (length (spelling c)) ++ spelling c
