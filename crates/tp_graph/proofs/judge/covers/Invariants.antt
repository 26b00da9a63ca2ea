use Rattle.tp_graph.proofs.Common.{◌≡◌, ◌+◌, drop, count_of, covers}
use Rattle.tp_graph.proofs.judge.covers.Given as goal

abbrev pub invariant-loop-record : goal.invariant-loop-record
invariant-loop-record l =
    (l.next + count_of (drop l.record-index l.records) ≡ l.first + count_of l.records)
    × (covers l.next (drop l.record-index l.records) l.counter ≡ covers l.first l.records l.counter)
