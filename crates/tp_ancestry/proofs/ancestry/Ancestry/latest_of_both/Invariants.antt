use Rattle.tp_ancestry.proofs.Common.{◌≡◌, ◌≤◌, ◌+◌, ◌-◌, ◌||◌, ℕ, length}
use Rattle.tp_ancestry.specs.VersionVectors as vectors
use Rattle.tp_ancestry.proofs.ancestry.Ancestry.latest_of_both.Given as goal

abbrev pub invariant-loop-i : goal.invariant-loop-i
invariant-loop-i l = record {
  places : vectors.ArePlaces l.self.changes l.all.items;
  within_xs : l.i ≤ length l.xs;
  within_ys : l.j ≤ length l.ys;
  reached : (p : ℕ) → vectors.is_reached_by_any l.self.changes l.xs l.ys l.all.items l.i l.j p ≡ (vectors.is_reached l.self.changes l.xs p || vectors.is_reached l.self.changes l.ys p);
}

abbrev pub decreases-loop-i : goal.decreases-loop-i
decreases-loop-i l = (length l.xs + length l.ys) - (l.i + l.j)
