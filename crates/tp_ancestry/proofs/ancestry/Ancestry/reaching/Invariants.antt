use Rattle.tp_ancestry.proofs.Common.{◌≡◌, drop}
use Rattle.tp_ancestry.specs.VersionVectors as vectors
use Rattle.tp_ancestry.proofs.ancestry.Ancestry.reaching.Given as goal

abbrev pub invariant-loop-i : goal.invariant-loop-i
invariant-loop-i l = vectors.is_reached l.self.changes (drop l.i l.latest) l.place ≡ vectors.is_reached l.self.changes l.latest l.place
