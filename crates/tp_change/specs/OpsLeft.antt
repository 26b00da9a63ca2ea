-- The operations that a walk over a change still has to give.
use Rattle.std.specs.Prelude.{◌+◌, ◌≤◌, List, ◌++◌, length}
use Rattle.std.specs.List.{AllByRecursion}
use Rattle.std.specs.Str.{chars}
use Rattle.tp_layout.specs.declared.limits.TheConstants.{COUNTERS_END}
use Rattle.tp_change.specs.declared.op.Op.{Op}
use Rattle.tp_change.specs.declared.ops.Walk.{Walk}
use Rattle.tp_layout.specs.Counts.{count_of}
use Rattle.tp_change.specs.Operations.{run, deletes_from, ops_from}
use Rattle.tp_layout.specs.Limits.{IsRecord}

-- those of the text that the walk is in, then those of its run of deletes, then those of the records after it
abbrev pub ops_left : Walk → List Op
ops_left w = run w.actor w.counter w.after (chars w.text.now) ++ (deletes_from w.actor (w.counter + length (chars w.text.now)) w.target w.deletes ++ ops_from w.actor (w.counter + length (chars w.text.now) + w.deletes) w.records.now)

-- no counter that is to come passes its limit
pub record IsWalk (w : Walk) : Type 0 where
  pub records : AllByRecursion IsRecord w.records.now
  pub counters : w.counter + length (chars w.text.now) + w.deletes + count_of w.records.now ≤ COUNTERS_END
  pub targets : w.target.counter + w.deletes ≤ COUNTERS_END
