use Rattle.tp_graph.proofs.Common.{◌≡◌, map, take}
use Rattle.tp_graph.proofs.copies.copies_of.Given as goal

abbrev pub invariant-loop-change : goal.invariant-loop-change
invariant-loop-change l = l.copies.items ≡ map (λ c. c.now) (take l.change-index l.changes)
