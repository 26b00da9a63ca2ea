use Rattle.std.proofs.Common.{◌≤◌}
use Rattle.tp_elements.proofs.lookup.likely.Given as goal

abbrev pub invariant-loop : goal.invariant-loop
invariant-loop l = (l.low ≤ l.high) × (l.high ≤ l.last)
