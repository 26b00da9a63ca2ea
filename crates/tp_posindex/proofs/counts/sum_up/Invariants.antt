use Rattle.std.proofs.Common.{◌≤◌, ◌<◌, ◌+◌, ◌-◌, ◌*◌, length, vec_len, vec_capacity}
use Rattle.tp_posindex.specs.CountsState.{AreSums}
use Rattle.tp_posindex.proofs.counts.sum_up.Given as goal

-- the sums that are there are those of the first groups, and there is room for the others
abbrev pub invariant-groups : goal.invariant-groups
invariant-groups l = AreSums l.size l.counts l.sums.items × (l.size * length l.sums.items < length l.counts + l.size) × (vec_capacity l.initial.sums ≤ vec_capacity l.sums)

abbrev pub decreases-groups : goal.decreases-groups
decreases-groups l = l.groups - vec_len l.sums
