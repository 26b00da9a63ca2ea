use Rattle.tp_graph.proofs.Common.{◌≡◌, drop, gather}
use Rattle.tp_graph.proofs.missing.gather_deps.Given as goal

abbrev pub invariant-loop-hash : goal.invariant-loop-hash
invariant-loop-hash l = gather l.ancestry.changes l.waiting (drop l.hash-index l.deps) l.found.items ≡ gather l.ancestry.changes l.waiting l.deps l.initial.found.items
