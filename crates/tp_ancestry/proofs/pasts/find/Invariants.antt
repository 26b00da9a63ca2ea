use Rattle.tp_ancestry.proofs.Common.{◌-◌, ◌≤◌, length}
use Rattle.tp_ancestry.proofs.pasts.find.Given as goal

abbrev pub invariant-loop-low : goal.invariant-loop-low
invariant-loop-low l = (l.low ≤ l.high) × (l.high ≤ length l.vectors)

abbrev pub decreases-loop-low : goal.decreases-loop-low
decreases-loop-low l = l.high - l.low
