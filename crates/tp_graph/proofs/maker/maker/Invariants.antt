use Rattle.tp_graph.proofs.Common.{◌-◌, ◌≤◌, length}
use Rattle.tp_history.proofs.ActorChangesLaws.{Within}
use Rattle.tp_graph.proofs.maker.maker.Given as goal

abbrev pub invariant-loop-low : goal.invariant-loop-low
invariant-loop-low l = record {
  ordered : l.low ≤ l.high;
  high : l.high ≤ length l.own;
  bounds : Within l.ancestry.changes l.own l.id l.low l.high;
}

abbrev pub decreases-loop-low : goal.decreases-loop-low
decreases-loop-low l = l.high - l.low
