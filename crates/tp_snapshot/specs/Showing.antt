-- What is seen of the text of changes, and of a sequence that has their elements.
use Rattle.std.specs.Prelude.{◌≡◌, ◌≤◌, ℕ, List, length, Option}
use Rattle.tp_snapshot.specs.Common.{slice_get, AllChanges, Sound, most_changes, OpId, Insert, ChangeParts, inserts, deletes, IsInOrder, visible_of, IsTextOf, option_map, visible_before}

-- The text of the changes has that many characters.
abbrev pub HasLength : List ChangeParts → ℕ → Type 0
HasLength C n = (t : List ℕ) × IsTextOf C t × (n ≡ length t)

-- The text of the changes has this character at the position, or none past its end.
abbrev pub HasCharAt : List ChangeParts → ℕ → Option ℕ → Type 0
HasCharAt C at o = (t : List ℕ) × IsTextOf C t × (o ≡ slice_get t at)

-- The visible element at the position in the text of the changes, or none past its end.
abbrev pub HasElementAt : List ChangeParts → ℕ → Option OpId → Type 0
HasElementAt C at o = (L : List Insert) × IsInOrder (inserts C) L × (o ≡ option_map (λ (e : Insert). e.id) (slice_get (visible_of (deletes C) L) at))

-- How many visible elements are before the element in the text of the changes, or none where it isn't there.
abbrev pub HasPosition : List ChangeParts → OpId → Option ℕ → Type 0
HasPosition C x o = (L : List Insert) × IsInOrder (inserts C) L × (o ≡ visible_before (deletes C) L x)

-- What is kept of applied changes: they are sound and within limits, and a sequence has the elements that they insert, in
-- order, and their deletes.
pub record DocumentInvariant (applied : List ChangeParts) (placed : List Insert) (removals : List (OpId × OpId)) : Type 0 where
  pub sound : Sound applied
  pub limits : AllChanges applied
  pub few : length applied ≤ most_changes
  pub order : IsInOrder (inserts applied) placed
  pub deletes : removals ≡ deletes applied
