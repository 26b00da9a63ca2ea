-- Where a walk over the operations begins.
use Rattle.std.proofs.Common.{◌≡◌, ◌+◌, List, [], ◌++◌, length, refl, sym, ap, subst, arith}
use Rattle.std.specs.List.{AllByRecursion}
use Rattle.std.specs.Str.{chars}
use Rattle.std.proofs.lemmas.Str.{chars-nil}
use Rattle.tp_opid.specs.declared.op_id.OpId.{OpId}
use Rattle.tp_opid.specs.declared.op_id.Place.{Place}
use Rattle.tp_change.specs.declared.ops.Walk.{Walk}
use Rattle.tp_layout.specs.declared.record.Record.{Record}
use Rattle.tp_layout.specs.declared.parts.ChangeParts.{ChangeParts}
use Rattle.tp_layout.specs.Counts.{count_of}
use Rattle.tp_change.specs.Operations.{run, deletes_from, ops_from, ops_of}
use Rattle.tp_layout.specs.Limits.{IsRecord, IsChange}
use Rattle.tp_change.specs.OpsLeft.{IsWalk}

-- before the first record all operations are left
pub ops_begin : (c : ChangeParts) (after : Place) (target : OpId) (rs : List Record) → rs ≡ c.records → run c.actor c.start after (chars []) ++ (deletes_from c.actor (c.start + length (chars [])) target 0 ++ ops_from c.actor (c.start + length (chars []) + 0) rs) ≡ ops_of c
unfolding ops_of
ops_begin c after target rs e =
    let none : length (chars []) ≡ 0 = rw chars-nil refl in
    let at : c.start + length (chars []) + 0 ≡ c.start = omega (arith, none) in
    rw (at, chars-nil, e) refl

-- and no counter passes its limit
pub walk_begin : (c : ChangeParts) (w : Walk) → IsChange c → w.text.now ≡ [] → w.counter ≡ c.start → w.deletes ≡ 0 → w.target.counter ≡ 0 → w.records.now ≡ c.records → IsWalk w
walk_begin c w h nothing counter deletes target records =
    let none : length (chars w.text.now) ≡ 0 = rw (nothing, chars-nil) refl in
    let count : count_of w.records.now ≡ count_of c.records = ap count_of records in
    record {
      records = subst (AllByRecursion IsRecord) (sym records) h.records;
      counters = omega (arith, h.counters);
      targets = omega arith;
    }
