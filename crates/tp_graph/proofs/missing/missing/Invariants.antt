use Rattle.tp_graph.proofs.Common.{◌≡◌, drop, [], gather_all}
use Rattle.tp_graph.proofs.missing.missing.Given as goal

abbrev pub invariant-loop-change : goal.invariant-loop-change
invariant-loop-change l = gather_all l.ancestry.changes l.waiting (drop l.change-index l.waiting) l.found.items ≡ gather_all l.ancestry.changes l.waiting l.waiting []
