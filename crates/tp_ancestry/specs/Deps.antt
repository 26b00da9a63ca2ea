-- What its dependencies say of a change.
use Rattle.std.specs.Prelude.{◌≡◌, ℕ, ◌≤◌, List, drop, take, Option, Some, None, IsSome, IsTrue}
use Rattle.tp_ancestry.specs.Common.{Hash, ChangeParts, later, next_counter}
use Rattle.tp_ancestry.specs.declared.deps.Behind.{Behind}
use Rattle.tp_ancestry.specs.declared.vector.VersionVector.{VersionVector}
use Rattle.tp_history.specs.Named.{has_all}
use Rattle.tp_history.specs.Heads.{heads}
use Rattle.tp_history.specs.Past.{past}
use Rattle.tp_ancestry.specs.Ends.{latest_end}
use Rattle.tp_ancestry.specs.VersionVectors.{IsKnown, HasTaken}

-- All hashes are those of changes. A change that depends on them starts there, and the version vector, where it is known, is
-- that of their past. It is known where they are the heads.
pub record IsBehind (C : List ChangeParts) (H : List Hash) (b : Behind) : Type 0 where
  pub there : IsTrue (has_all C H)
  pub start : b.start ≡ next_counter (past C H)
  pub past : IsKnown C H b.past
  pub heads : H ≡ heads C → IsSome b.past

-- The first hashes, as many as the number, are joined, and each is that of a change. What holds of all hashes follows from
-- those that are left.
pub record IsJoined (C : List ChangeParts) (H : List Hash) (number : ℕ) (b : Behind) : Type 0 where
  pub start : later b.start (latest_end C (drop number H)) ≡ latest_end C H
  pub some : 1 ≤ b.start
  pub there : has_all C (drop number H) ≡ has_all C H
  pub past : IsKnown C (take number H) b.past

-- Where a version vector is known still, the change at the place and its past were put into one that was.
abbrev pub HasJoined : List ChangeParts → ℕ → Option VersionVector → Option VersionVector → Type 0
HasJoined C place o None = Unit {0}
HasJoined C place None (Some e) = ⊥
HasJoined C place (Some e) (Some f) = HasTaken C place e f
