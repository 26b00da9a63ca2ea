use Rattle.tp_graph.proofs.MarkedLaws.{AreMarked-same}
use Rattle.tp_graph.proofs.applied.Applied.copy.Goals as goal

pub invariant_of-result : goal.invariant_of-result
invariant_of-result c = record {
  marked = rw c.in_ok-copy.ensures.changes (AreMarked-same c.self.inside.ancestry.changes _ _ c.in_ok-clone.ensures.cases.0 c.self.invariant.marked);
  ready = rw c.in_ok-copy.ensures.room tt;
}
