-- How far the pasts of changes reach, as it is kept.
use Rattle.std.specs.Prelude.{◌≡◌, ℕ, ◌<◌, List, [], length, Some}
use Rattle.tp_ancestry.specs.Common.{slice_get, Hash, ChangeParts}
use Rattle.tp_ancestry.specs.declared.vector.VersionVector.{VersionVector}
use Rattle.tp_ancestry.specs.declared.pasts.VectorAt.{VectorAt}
use Rattle.tp_ancestry.specs.declared.pasts.TheConstants.{NO_PREFIX}
use Rattle.tp_ancestry.specs.VersionVectors.{IsVectorOf}

-- The past of the hashes is all that is before the place.
abbrev pub IsSpan : List ChangeParts → List Hash → ℕ → Type 0
IsSpan C H n = (e : VersionVector) → e.prefix ≡ n → e.latest.items ≡ [] → IsVectorOf C H e

-- There is a change at the place, and the version vector is that of the past of its dependencies.
pub record IsVectorAt (C : List ChangeParts) (a : VectorAt) : Type 0 where
  pub place : a.place < length C
  pub known : (c : ChangeParts) → slice_get C a.place ≡ Some c → IsVectorOf C c.deps a.vector

-- Each entry has the version vector of the past of the change at its place.
abbrev pub AreVectorsAt : List ChangeParts → List VectorAt → Type 0
AreVectorsAt C xs = (k : ℕ) → (a : VectorAt) → slice_get xs k ≡ Some a → IsVectorAt C a

-- There is a number for each change; below NO_PREFIX its past is all that is before that place. The version vectors
-- that are kept separately are those of pasts.
pub record ArePasts (C : List ChangeParts) (prefixes : List ℕ) (xs : List VectorAt) : Type 0 where
  pub each : length prefixes ≡ length C
  pub spans : (i : ℕ) → (c : ChangeParts) → (n : ℕ) → slice_get C i ≡ Some c → slice_get prefixes i ≡ Some n → n < NO_PREFIX → IsSpan C c.deps n
  pub vectors : AreVectorsAt C xs
