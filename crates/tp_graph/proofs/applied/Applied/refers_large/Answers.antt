use Rattle.tp_change.specs.Operations.{op_count}
use Rattle.tp_graph.proofs.BeforeLaws.{clear-replicate}
use Rattle.tp_graph.proofs.applied.Applied.refers_large.Goals as goal

pub refers_with-requires-clause-room : goal.refers_with-requires-clause-room
unfolding op_count
refers_with-requires-clause-room c = c.hash-hash.ensures.limits.operations

pub refers_with-requires-clause-clear : goal.refers_with-requires-clause-clear
refers_with-requires-clause-clear c = clear-replicate 65536
