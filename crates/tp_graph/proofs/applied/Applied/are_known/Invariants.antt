use Rattle.tp_graph.proofs.Common.{◌≡◌, ◌+◌, ◌-◌, ◌++◌, List, Record, id_of, ops_from, DescribesRecords, past_changes}
use Rattle.tp_change.specs.Elements as made
use Rattle.tp_graph.specs.Covers as cover
use Rattle.tp_graph.proofs.applied.Applied.are_known.Given as goal

-- whether all are there rests on those from i on
abbrev pub invariant-loop-i : goal.invariant-loop-i
invariant-loop-i l =
    (rs : List Record) → DescribesRecords l.before rs
    → let S = made.inserts_in (ops_from l.before.actor l.before.first rs) ++ made.inserts (past_changes l.past_set l.self.changes) in
    cover.all_inserted S (id_of l.first.actor (l.first.counter + l.i)) (l.count - l.i) ≡ cover.all_inserted S l.first l.count
