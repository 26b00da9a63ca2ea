use Rattle.tp_ancestry.proofs.Common.{◌≡◌, ℕ, ◌<◌, ◌≤◌, get_or, false, marked_of}
use Rattle.tp_ancestry.proofs.ancestry.Ancestry.next_outside_before.Given as goal

-- none was found from the first place on
abbrev pub invariant-loop-place : goal.invariant-loop-place
invariant-loop-place l = (k : ℕ) → l.fn.from ≤ k → k < l.place → get_or (marked_of l.outside.marked l.self.changes) k false ≡ false
