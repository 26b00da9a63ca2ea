use Rattle.std.proofs.Common.{◌≡◌, ◌+◌, drop}
use Rattle.tp_c.specs.Changes.{inserted_in}
use Rattle.tp_c.proofs.changes.count_inserted.Given as goal

abbrev pub invariant-loop-entry : goal.invariant-loop-entry
invariant-loop-entry l = l.total + inserted_in (drop l.entry-index l.records) ≡ inserted_in l.records
