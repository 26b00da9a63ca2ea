use Rattle.tp_graph.proofs.Common.{AreSet}
use Rattle.tp_graph.proofs.before.mark_all.Given as goal

abbrev pub invariant-loop-number : goal.invariant-loop-number
invariant-loop-number l = AreSet l.fn.deletes l.deletes l.from l.number
