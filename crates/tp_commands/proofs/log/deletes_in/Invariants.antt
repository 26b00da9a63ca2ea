use Rattle.std.proofs.Common.{◌≡◌, ◌+◌, ◌≤◌, take, drop}
use Rattle.std.specs.List.{sum_by}
use Rattle.tp_layout.specs.Counts.{count_of}
use Rattle.tp_commands.specs.Log.{delete_count}
use Rattle.tp_commands.proofs.log.deletes_in.Given as goal

-- the deletes of the records so far are counted, and with the operations that are left they are no more than all
abbrev pub invariant-loop-entry : goal.invariant-loop-entry
invariant-loop-entry l = record {
  few : l.count + count_of (drop l.entry-index l.entry-items) ≤ count_of l.entry-items;
  counted : l.count ≡ sum_by delete_count (take l.entry-index l.entry-items);
}
