use Rattle.std.proofs.Common.{◌≡◌, take}
use Rattle.tp_posindex.specs.Laid.{count_visible}
use Rattle.tp_posindex.proofs.numbers.count_down.Given as goal

abbrev pub invariant-loop-number : goal.invariant-loop-number
invariant-loop-number l = l.count ≡ count_visible l.flags (take l.number-index l.numbers)
