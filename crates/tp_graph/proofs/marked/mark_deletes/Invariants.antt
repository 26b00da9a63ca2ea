use Rattle.tp_graph.proofs.Common.{◌≤◌, take, length, count_of, Marks}
use Rattle.tp_graph.proofs.marked.mark_deletes.Given as goal

abbrev pub invariant-loop-i : goal.invariant-loop-i
invariant-loop-i l =
    Marks l.deletes l.change.start l.count (take l.i l.records)
    × (count_of l.records ≤ length l.deletes)
