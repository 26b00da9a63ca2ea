use Rattle.tp_sync.proofs.Common.{◌≡◌, map, take}
use Rattle.tp_sync.proofs.generating.copies_of.Given as goal

abbrev pub invariant-loop-change : goal.invariant-loop-change
invariant-loop-change l = l.copies.items ≡ map (λ c. c.now) (take l.change-index l.changes)
