-- What is wrong with the parts of a change: the whole size first, and then the first fault in the order of the fields.
use Rattle.std.specs.Prelude.{ℕ, ◌+◌, ◌-◌, ◌&&◌, nat_le, nat_lt, min, Bool, true, List, [], ◌∷◌, length, encode_utf8_all, Option, Some, None, Result, Ok, Err, false, if◌then◌else◌}
use Rattle.std.specs.Ordering.{is_lt}
use Rattle.tp_opid.specs.declared.hash.Hash.{Hash}
use Rattle.tp_opid.specs.Order.{hash_cmp}
use Rattle.tp_layout.specs.declared.limits.TheConstants.{MAX_BYTES, MAX_OPS, MAX_DEPS, MAX_MESSAGE_BYTES, COUNTERS_END}
use Rattle.tp_layout.specs.declared.error.ChangeError.{ChangeError}
use Rattle.tp_layout.specs.declared.error.ChangeError.TheVariants.{ZeroSeqOrStart, DepsOrder, NoRecords, EmptyRun, Limit}
use Rattle.tp_layout.specs.declared.record.Record.{Record}
use Rattle.tp_layout.specs.declared.record.Record.TheVariants.{Insert, Delete, DeleteRun}
use Rattle.tp_layout.specs.declared.parts.ChangeParts.{ChangeParts}
use Rattle.tp_layout.specs.Counts.{count_in}
use Rattle.tp_layout.specs.Spelling.{spelling}

-- the faults that the parts of a change can have
abbrev pub is_fault_of_parts : ChangeError → Bool
is_fault_of_parts ZeroSeqOrStart = true
is_fault_of_parts DepsOrder = true
is_fault_of_parts NoRecords = true
is_fault_of_parts EmptyRun = true
is_fault_of_parts Limit = true
is_fault_of_parts e = false

-- the fault, unless the test holds
abbrev pub unless : Bool → ChangeError → Result (Unit {0}) ChangeError
unless fine e = if fine then Ok tt else Err e

-- the first fault of two validations
infixr 10 ◌and_then◌
abbrev pub ◌and_then◌ : Result (Unit {0}) ChangeError → Result (Unit {0}) ChangeError → Result (Unit {0}) ChangeError
(Ok _) and_then rest = rest
(Err e) and_then rest = Err e

-- h is above the hash before it, if there is one
abbrev pub is_above : Option Hash → Hash → Bool
is_above None h = true
is_above (Some g) h = is_lt (hash_cmp g h)

-- each hash is above the one before it
abbrev pub rises_after : Option Hash → List Hash → Bool
rises_after before [] = true
rises_after before (h ∷ hs) = is_above before h && rises_after (Some h) hs

-- at most 65,535 dependencies, rising
abbrev pub validated_deps : List Hash → Result (Unit {0}) ChangeError
validated_deps hs = unless (nat_le (length hs) MAX_DEPS) Limit and_then unless (rises_after None hs) DepsOrder

-- the fewest operations of a record: two of a run of deletes
abbrev pub fewest_in : Record → ℕ
fewest_in (Insert after text) = 1
fewest_in (Delete target) = 1
fewest_in (DeleteRun first count) = 2

-- no target of a run of deletes has a counter past 2^48 - 1
abbrev pub has_targets_within : Record → Bool
has_targets_within (Insert after text) = true
has_targets_within (Delete target) = true
has_targets_within (DeleteRun first count) = nat_le (first.counter + count) COUNTERS_END

-- where room is how many operations may still come: a run isn't too short, the operations have room, and the counters
-- of a run's targets are within the limit
abbrev pub validated_record : ℕ → Record → Result (Unit {0}) ChangeError
validated_record room r = unless (nat_le (fewest_in r) (count_in r)) EmptyRun and_then unless (nat_le (count_in r) room) Limit and_then unless (has_targets_within r) Limit

-- each record in turn
abbrev pub validated_records : ℕ → List Record → Result (Unit {0}) ChangeError
validated_records room [] = Ok tt
validated_records room (r ∷ rs) = validated_record room r and_then validated_records (room - count_in r) rs

-- the sequence number and the start: from 1, the start below 2^48
abbrev pub validated_numbers : ℕ → ℕ → Result (Unit {0}) ChangeError
validated_numbers seq start = unless (nat_lt 0 seq) ZeroSeqOrStart and_then unless (nat_lt 0 start) ZeroSeqOrStart and_then unless (nat_lt start COUNTERS_END) Limit

-- the record count, and the records: at most 65,536 operations, and at most those whose counters are below 2^48
abbrev pub validated_list : ℕ → List Record → Result (Unit {0}) ChangeError
validated_list start rs = unless (nat_lt 0 (length rs)) NoRecords and_then unless (nat_le (length rs) MAX_OPS) Limit and_then validated_records (min (COUNTERS_END - start) MAX_OPS) rs

-- the fault of the parts of a change
unfoldable pub validated_parts : ChangeParts → Result (Unit {0}) ChangeError
validated_parts c =
    unless (nat_le (length (spelling c)) MAX_BYTES) Limit and_then
    validated_numbers c.seq c.start and_then
    unless (nat_le (length (encode_utf8_all c.message)) MAX_MESSAGE_BYTES) Limit and_then
    validated_deps c.deps and_then
    validated_list c.start c.records
