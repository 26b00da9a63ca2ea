-- Version vectors, by places: a past has all changes before a prefix, and of each actor that has a latest place those up to it.
use Rattle.std.specs.Prelude.{◌≡◌, ◌↔◌, ℕ, ◌+◌, ◌<◌, ◌≤◌, List, [], ◌∷◌, length, get_or, drop, Bool, false, ◌||◌, ◌&&◌, nat_lt, nat_le, Option, Some, None, IsTrue}
use Rattle.tp_ancestry.specs.Common.{slice_get, In, Hash, same_actor, ChangeParts}
use Rattle.tp_ancestry.specs.declared.vector.VersionVector.{VersionVector}
use Rattle.tp_history.specs.Past.{past}

-- two changes are there and have one actor
abbrev pub same_author_of : Option ChangeParts → Option ChangeParts → Bool
same_author_of None o = false
same_author_of (Some c) None = false
same_author_of (Some c) (Some d) = same_actor c.actor d.actor

-- the changes at the two places have one actor
abbrev pub same_author : List ChangeParts → ℕ → ℕ → Bool
same_author C i j = same_author_of (slice_get C i) (slice_get C j)

-- the latest place reaches the place: its change has the actor of the change there, and isn't before it
abbrev pub reaches : List ChangeParts → ℕ → ℕ → Bool
reaches C last i = nat_le i last && same_author C last i

-- one of the latest places reaches the place
abbrev pub is_reached : List ChangeParts → List ℕ → ℕ → Bool
is_reached C [] i = false
is_reached C (last ∷ latest) i = reaches C last i || is_reached C latest i

-- one of the latest places that are taken, or of those that are left of two lists after i of the one and j of the other
-- are taken, reaches the place
abbrev pub is_reached_by_any : List ChangeParts → List ℕ → List ℕ → List ℕ → ℕ → ℕ → ℕ → Bool
is_reached_by_any C xs ys all i j p = is_reached C all p || (is_reached C (drop i xs) p || is_reached C (drop j ys) p)

-- the place is before the prefix, or a latest place reaches it
abbrev pub is_held : List ChangeParts → ℕ → List ℕ → ℕ → Bool
is_held C prefix latest i = nat_lt i prefix || is_reached C latest i

-- for as many places as there are changes, from the place n on, whether each is held
abbrev pub held_from : List ChangeParts → ℕ → List ℕ → ℕ → List ChangeParts → List Bool
held_from C prefix latest n [] = []
held_from C prefix latest n (c ∷ D) = is_held C prefix latest n ∷ held_from C prefix latest (n + 1) D

-- Each latest place is the place of a change.
abbrev pub ArePlaces : List ChangeParts → List ℕ → Type 0
ArePlaces C latest = (k : ℕ) → k < length latest → get_or latest k 0 < length C

-- The prefix is no later than the end, and each latest place is the place of a change.
pub record IsPlaced (C : List ChangeParts) (e : VersionVector) : Type 0 where
  pub prefix : e.prefix ≤ length C
  pub latest : ArePlaces C e.latest.items

-- The version vector is that of the past of the hashes: it holds the places of the changes of the past, and no others.
pub record IsVectorOf (C : List ChangeParts) (H : List Hash) (e : VersionVector) : Type 0 where
  pub placed : IsPlaced C e
  pub held : (i : ℕ) → (c : ChangeParts) → slice_get C i ≡ Some c → IsTrue (is_held C e.prefix e.latest.items i) ↔ In c (past C H)

-- The version vector, where it is known, is that of the past of the hashes.
abbrev pub IsKnown : List ChangeParts → List Hash → Option VersionVector → Type 0
IsKnown C H None = Unit {0}
IsKnown C H (Some e) = IsVectorOf C H e

-- The new version vector holds what the old one held, the change at the place, and what a version vector of the past of its
-- dependencies holds.
pub record HasTaken (C : List ChangeParts) (place : ℕ) (old new : VersionVector) : Type 0 where
  pub placed : IsPlaced C new
  pub own : VersionVector
  pub known : (d : ChangeParts) → slice_get C place ≡ Some d → IsVectorOf C d.deps own
  pub held : (i : ℕ) → is_held C new.prefix new.latest.items i ≡ ((reaches C place i || is_held C own.prefix own.latest.items i) || is_held C old.prefix old.latest.items i)
