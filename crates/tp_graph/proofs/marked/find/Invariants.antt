use Rattle.tp_graph.proofs.Common.{◌-◌, ◌≤◌, length}
use Rattle.tp_graph.proofs.marked.find.Given as goal

abbrev pub invariant-loop-low : goal.invariant-loop-low
invariant-loop-low l = (l.low ≤ l.high) × (l.high ≤ length l.marked)

abbrev pub decreases-loop-low : goal.decreases-loop-low
decreases-loop-low l = l.high - l.low
