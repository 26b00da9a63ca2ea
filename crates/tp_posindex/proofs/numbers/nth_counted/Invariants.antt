use Rattle.std.proofs.Common.{◌≡◌, ◌+◌, take, sum}
use Rattle.tp_posindex.proofs.numbers.nth_counted.Given as goal

-- what was passed is counted off
abbrev pub invariant-loop-index : goal.invariant-loop-index
invariant-loop-index l = sum (take l.index l.counts) + l.left ≡ sum (take l.from l.counts) + l.n
