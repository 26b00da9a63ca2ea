use Rattle.tp_graph.proofs.Common.{◌≡◌, drop, only_inserts}
use Rattle.tp_graph.proofs.judge.only_inserts.Given as goal

abbrev pub invariant-loop-record : goal.invariant-loop-record
invariant-loop-record l = only_inserts (drop l.record-index l.records) ≡ only_inserts l.records
