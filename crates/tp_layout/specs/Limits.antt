-- What has a spelling: changes within the limits and the grammar.
use Rattle.std.specs.Prelude.{ℕ, ◌+◌, ◌<◌, ◌≤◌, ◌^◌, List, length, encode_utf8_all, IsTrue}
use Rattle.std.specs.List.{AllByRecursion}
use Rattle.std.specs.Str.{all_scalars}
use Rattle.tp_list.specs.Bytes.{IsBytes}
use Rattle.tp_list.specs.Members.{In}
use Rattle.tp_list.specs.Rising.{IsRising}
use Rattle.tp_opid.specs.declared.actor.Actor.{Actor}
use Rattle.tp_opid.specs.declared.hash.Hash.{Hash}
use Rattle.tp_opid.specs.declared.op_id.OpId.{OpId}
use Rattle.tp_opid.specs.declared.op_id.Place.{Place}
use Rattle.tp_opid.specs.declared.op_id.Place.TheVariants.{Start, After}
use Rattle.tp_opid.specs.Order.{hash_cmp}
use Rattle.tp_layout.specs.declared.limits.TheConstants.{MAX_BYTES, MAX_OPS, MAX_DEPS, MAX_MESSAGE_BYTES, COUNTERS_END}
use Rattle.tp_layout.specs.declared.record.Record.{Record}
use Rattle.tp_layout.specs.declared.record.Record.TheVariants.{Insert, Delete, DeleteRun}
use Rattle.tp_layout.specs.declared.parts.ChangeParts.{ChangeParts}
use Rattle.tp_layout.specs.Counts.{count_of}
use Rattle.tp_layout.specs.Spelling.{spelling}

abbrev pub IsActor : Actor → Type 0
IsActor a = IsBytes 16 a.0

abbrev pub IsHash : Hash → Type 0
IsHash h = IsBytes 32 h.0

pub record IsId (id : OpId) : Type 0 where
  pub counter : id.counter < 2 ^ 64
  pub actor : IsActor id.actor

abbrev pub IsPlace : Place → Type 0
IsPlace Start = Unit {0}
IsPlace (After id) = IsId id

-- characters whose UTF-8 has at most `limit` bytes
pub record IsText (limit : ℕ) (text : List ℕ) : Type 0 where
  pub scalars : IsTrue (all_scalars text)
  pub bytes : length (encode_utf8_all text) ≤ limit

-- An insert run has a character at least. A run of deletes has two deletes at least, and the last target's counter is at
-- most 2^48 - 1.
abbrev pub IsRecord : Record → Type 0
IsRecord (Insert after text) = IsPlace after × IsText MAX_BYTES text × (0 < length text)
IsRecord (Delete target) = IsId target
IsRecord (DeleteRun first count) = IsId first × (2 ≤ count) × (first.counter + count ≤ COUNTERS_END)

-- A change within the limits and the grammar: all that has a spelling.
pub record IsChange (c : ChangeParts) : Type 0 where
  pub actor : IsActor c.actor
  pub seq_from : 1 ≤ c.seq
  pub seq_to : c.seq < 2 ^ 64
  pub start_from : 1 ≤ c.start
  pub time : c.time < 2 ^ 64
  pub message : IsText MAX_MESSAGE_BYTES c.message
  pub deps : AllByRecursion IsHash c.deps
  pub deps_rise : IsRising hash_cmp c.deps
  pub deps_count : length c.deps ≤ MAX_DEPS
  pub records : AllByRecursion IsRecord c.records
  pub records_some : 1 ≤ length c.records
  pub operations : count_of c.records ≤ MAX_OPS
  -- the last counter is at most 2^48 - 1
  pub counters : c.start + count_of c.records ≤ COUNTERS_END
  pub size : length (spelling c) ≤ MAX_BYTES

-- Each change is within the limits of changes.
abbrev pub AllChanges : List ChangeParts → Type 0
AllChanges C = (c : ChangeParts) → In c C → IsChange c

-- What the types of a program say of a record: no limit is known yet.
abbrev pub IsTypedRecord : Record → Type 0
IsTypedRecord (Insert after text) = IsPlace after × IsTrue (all_scalars text)
IsTypedRecord (Delete target) = IsId target
IsTypedRecord (DeleteRun first count) = IsId first × (count < 2 ^ 32)

-- what the types of a program say of the parts of a change
pub record IsTyped (c : ChangeParts) : Type 0 where
  pub actor : IsActor c.actor
  pub seq : c.seq < 2 ^ 64
  pub time : c.time < 2 ^ 64
  pub message : IsTrue (all_scalars c.message)
  pub deps : AllByRecursion IsHash c.deps
  pub records : AllByRecursion IsTypedRecord c.records
