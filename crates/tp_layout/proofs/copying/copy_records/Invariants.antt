use Rattle.std.proofs.Common.{◌≡◌, take}
use Rattle.tp_layout.proofs.copying.copy_records.Given as goal

abbrev pub invariant-loop-entry : goal.invariant-loop-entry
invariant-loop-entry l = l.copied.items ≡ take l.entry-index l.records
