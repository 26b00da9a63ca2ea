use Rattle.tp_graph.proofs.BeforeLaws.{clear-replicate}
use Rattle.tp_graph.proofs.applied.Applied.refers_small.Goals as goal

pub refers_with-requires-clause-clear : goal.refers_with-requires-clause-clear
refers_with-requires-clause-clear c = clear-replicate 64
