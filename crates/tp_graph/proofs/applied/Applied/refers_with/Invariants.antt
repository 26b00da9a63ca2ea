use Rattle.tp_graph.proofs.Common.{◌≡◌, ◌≤◌, take, drop, length, [], count_of, Marks, past_changes}
use Rattle.tp_change.specs.Elements as made
use Rattle.tp_graph.specs.Covers as cover
use Rattle.tp_graph.proofs.applied.Applied.refers_with.Given as goal

abbrev pub invariant-loop-i : goal.invariant-loop-i
invariant-loop-i l =
    let S = made.inserts (past_changes l.past_set l.self.changes) in
    (cover.all_there l.actor l.first S (take l.i l.records) (drop l.i l.records) ≡ cover.all_there l.actor l.first S [] l.records)
    × Marks l.deletes l.first l.count (take l.i l.records)
    × (count_of l.records ≤ length l.deletes)
