use Rattle.std.proofs.Common.{◌≡◌, ◌<◌, ℕ, false}
use Rattle.tp_opid.specs.Same.{id_eq}
use Rattle.tp_elements.specs.Came.{element_at}
use Rattle.tp_elements.proofs.entries.Entries.search.Given as goal

-- no element so far has the identifier
abbrev pub invariant-loop-number : goal.invariant-loop-number
invariant-loop-number l = (j : ℕ) → j < l.number → id_eq (element_at l.self.items j).id l.id ≡ false
