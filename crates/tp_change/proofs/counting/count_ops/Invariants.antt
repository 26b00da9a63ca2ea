use Rattle.std.proofs.Common.{◌≡◌, ◌+◌, drop}
use Rattle.tp_layout.specs.Counts.{count_of}
use Rattle.tp_change.proofs.counting.count_ops.Given as goal

abbrev pub invariant-loop-entry : goal.invariant-loop-entry
invariant-loop-entry l = l.total + count_of (drop l.entry-index l.records) ≡ count_of l.records
