use Rattle.std.proofs.Common.{◌≡◌, ◌+◌, not, length, take, filter}
use Rattle.tp_rga.proofs.flags.nth_left.Given as goal

-- of the elements before `i`, those that were passed are counted off
abbrev pub invariant-loop-k : goal.invariant-loop-k
invariant-loop-k l = l.left + length (filter not (take l.k l.deleted)) ≡ l.i
