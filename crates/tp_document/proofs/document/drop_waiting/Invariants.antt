use Rattle.tp_document.proofs.Common.{◌≡◌, length}
use Rattle.tp_document.proofs.document.drop_waiting.Given as goal

-- the other parts stay
abbrev pub invariant-loop-left : goal.invariant-loop-left
invariant-loop-left l = record {
  waiting : length l.graph.waiting ≡ l.left;
  applied : l.graph.applied ≡ l.fn.graph.applied;
  room : l.graph.room ≡ l.fn.graph.room;
}

abbrev pub decreases-loop-left : goal.decreases-loop-left
decreases-loop-left l = l.left
