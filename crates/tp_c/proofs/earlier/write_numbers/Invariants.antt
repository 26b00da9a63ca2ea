use Rattle.std.proofs.Common.{◌≡◌}
use Rattle.tp_c.proofs.NumberLaws.{with_first}
use Rattle.tp_c.proofs.earlier.write_numbers.Given as goal

abbrev pub invariant-loop-i : goal.invariant-loop-i
invariant-loop-i l = l.places ≡ with_first l.found l.initial.places l.i
