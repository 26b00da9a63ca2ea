use Rattle.tp_ancestry.proofs.Common.{◌≡◌, ◌≤◌, ℕ, length}
use Rattle.tp_ancestry.specs.VersionVectors as vectors
use Rattle.tp_ancestry.proofs.ancestry.Ancestry.moved_on.Given as goal

abbrev pub invariant-loop-step : goal.invariant-loop-step
invariant-loop-step l = record {
  within : l.next ≤ length l.self.changes;
  held : (i : ℕ) → vectors.is_held l.self.changes l.next l.latest i ≡ vectors.is_held l.self.changes l.fn.prefix l.latest i;
}
