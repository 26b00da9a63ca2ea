use Rattle.std.proofs.Common.{◌≡◌, take, sum}
use Rattle.tp_posindex.proofs.numbers.total.Given as goal

abbrev pub invariant-loop-count : goal.invariant-loop-count
invariant-loop-count l = l.total ≡ sum (take l.count-index l.counts)
