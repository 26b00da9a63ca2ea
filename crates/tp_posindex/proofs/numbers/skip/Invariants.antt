use Rattle.std.proofs.Common.{◌≡◌, ◌+◌, ◌-◌, ◌≤◌, length, take, sum}
use Rattle.tp_posindex.proofs.numbers.skip.Given as goal

-- what was passed is counted off
abbrev pub invariant-strides : goal.invariant-strides
invariant-strides l = record {
  within : l.index ≤ length l.counts;
  passed : sum (take l.index l.counts) + l.left ≡ sum (take l.from l.counts) + l.n;
}

abbrev pub decreases-strides : goal.decreases-strides
decreases-strides l = length l.counts - l.index
