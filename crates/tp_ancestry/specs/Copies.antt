-- Copies of what is kept beside applied changes: what they have alike.
use Rattle.std.specs.Prelude.{◌≡◌}
use Rattle.tp_ancestry.specs.Common.{AllZip}
use Rattle.tp_ancestry.specs.declared.vector.VersionVector.{VersionVector}
use Rattle.tp_ancestry.specs.declared.lists.Lists.{Lists}
use Rattle.tp_ancestry.specs.declared.pasts.VectorAt.{VectorAt}
use Rattle.tp_ancestry.specs.declared.pasts.Pasts.{Pasts}

-- The version vectors have the same prefix and the same latest places.
pub record IsSameVector (e f : VersionVector) : Type 0 where
  pub prefix : f.prefix ≡ e.prefix
  pub latest : f.latest.items ≡ e.latest.items

-- The two entries have one place, and equal version vectors.
pub record IsSameVectorAt (a b : VectorAt) : Type 0 where
  pub place : b.place ≡ a.place
  pub vector : IsSameVector a.vector b.vector

-- What is kept of the pasts is equal.
pub record AreSamePasts (p q : Pasts) : Type 0 where
  pub prefixes : q.prefixes.items ≡ p.prefixes.items
  pub vectors : AllZip IsSameVectorAt p.vectors.items q.vectors.items

-- The lists have the same items, or such as are the same.
pub record AreSameLists (l m : Lists) : Type 0 where
  pub changes : m.changes.items ≡ l.changes.items
  pub heads : m.heads.items ≡ l.heads.items
  pub ends : m.ends.items ≡ l.ends.items
  pub pasts : AreSamePasts l.pasts m.pasts
