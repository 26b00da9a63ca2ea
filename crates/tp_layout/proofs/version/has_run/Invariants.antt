use Rattle.std.proofs.Common.{◌≡◌, drop}
use Rattle.tp_layout.specs.Spelling.{has_run}
use Rattle.tp_layout.proofs.version.has_run.Given as goal

abbrev pub invariant-loop-entry : goal.invariant-loop-entry
invariant-loop-entry l = has_run (drop l.entry-index l.records) ≡ has_run l.records
