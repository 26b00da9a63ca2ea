-- Places of changes by their actors.
use Rattle.std.specs.Prelude.{◌≡◌, ℕ, ◌+◌, ◌<◌, ◌≤◌, List, [], ◌∷◌, ◌++◌, length, take, get_or, slice_index, if◌then◌else◌, Option, Some, None, IsTrue}
use Rattle.tp_history.specs.Common.{w32, from_be_bytes, slice_get, lookup, In, Actor, OpId, same_actor, ChangeParts, op_count}
use Rattle.tp_history.specs.declared.by_actor.ByActor.{ByActor}
use Rattle.tp_history.specs.Fit.{count_by}
use Rattle.tp_history.specs.Places.{noted_word}

-- the item, where there is one, as a list
abbrev pub option_items : Option ℕ → List ℕ
option_items None = []
option_items (Some n) = n ∷ []

-- the list, where there is one
abbrev pub list_or_none : Option (List ℕ) → List ℕ
list_or_none None = []
list_or_none (Some xs) = xs

-- the places that a map with these entries has at the actor
abbrev pub places_of : List (Actor × List ℕ) → Actor → List ℕ
places_of entries a = list_or_none (lookup (same_actor a) entries)

-- the first 4 bytes of an actor as a number
unfoldable pub actor_word : Actor → ℕ
actor_word a = from_be_bytes w32 (slice_index a.0 0 ∷ slice_index a.0 1 ∷ slice_index a.0 2 ∷ slice_index a.0 3 ∷ [])

-- the place, where what is there is a change of the actor's
abbrev pub place_if_by : ℕ → Option ChangeParts → Actor → List ℕ
place_if_by p None a = []
place_if_by p (Some c) a = if same_actor c.actor a then p ∷ [] else []

-- the noted place, where the change there is the actor's
abbrev pub place_by : List ChangeParts → Option ℕ → Actor → List ℕ
place_by C None a = []
place_by C (Some p) a = place_if_by p (slice_get C p) a

-- The places that are listed for the actor: the one that is noted for its first 4 bytes, where the change there is the
-- actor's, and those in its list.
abbrev pub listed_places : List ChangeParts → ByActor → Actor → List ℕ
listed_places C b a = place_by C (noted_word b.firsts.entries (actor_word a)) a ++ places_of b.lists.entries a

-- Each place that is noted is less than n.
abbrev pub AreBelow : ℕ → List (ℕ × ℕ) → Type 0
AreBelow n entries = (w p : ℕ) → noted_word entries w ≡ Some p → p < n

-- The places are those of the actor's changes: as many as there are, each at its sequence number.
pub record ArePlacesBy (C : List ChangeParts) (a : Actor) (places : List ℕ) : Type 0 where
  pub all : length places ≡ count_by a C
  pub each : (k : ℕ) → k < length places → (c : ChangeParts) × (slice_get C (get_or places k 0) ≡ Some c) × IsTrue (same_actor c.actor a) × (c.seq ≡ k + 1)

-- All changes are listed or all but the last, each actor's among them in order. Only their places are noted.
pub record IsByActor (C : List ChangeParts) (b : ByActor) : Type 0 where
  pub within : b.listed ≤ length C
  pub near : length C ≤ b.listed + 1
  pub below : AreBelow b.listed b.firsts.entries
  pub own : (a : Actor) → ArePlacesBy (take b.listed C) a (listed_places C b a)

-- d has the actor of the identifier and an operation with its counter.
pub record HasOp (id : OpId) (d : ChangeParts) : Type 0 where
  pub actor : IsTrue (same_actor d.actor id.actor)
  pub low : d.start ≤ id.counter
  pub high : id.counter < d.start + op_count d

-- The change that has the operation, if there is one, is at the place; None where there is none.
abbrev pub IsMaker : List ChangeParts → OpId → Option ℕ → Type 0
IsMaker C id None = (d : ChangeParts) → In d C → HasOp id d → ⊥
IsMaker C id (Some p) = (p < length C) × ((d : ChangeParts) → In d C → HasOp id d → slice_get C p ≡ Some d)

-- The actor of the change at the place, where there is one, is among these.
abbrev pub HasActorAt : List ChangeParts → ℕ → List Actor → Type 0
HasActorAt C p actors = (c : ChangeParts) → slice_get C p ≡ Some c → In c.actor actors

-- The same places are noted and listed.
pub record AreSamePlaces (b d : ByActor) : Type 0 where
  pub firsts : d.firsts.entries ≡ b.firsts.entries
  pub lists : d.lists.entries ≡ b.lists.entries
  pub listed : d.listed ≡ b.listed
