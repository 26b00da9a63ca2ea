-- Which changes are outside a past, for each place.
use Rattle.std.specs.Prelude.{◌≡◌, ℕ, ◌<◌, ◌≤◌, List, length, map, not, get_or, Bool, false, IsTrue}
use Rattle.tp_ancestry.specs.Common.{Hash, ChangeParts}
use Rattle.tp_ancestry.specs.declared.outside.OutsideMarks.{OutsideMarks}
use Rattle.tp_ancestry.specs.declared.outside.OutsideMarks.TheVariants.{Beyond, Named}
use Rattle.tp_ancestry.specs.declared.outside.Outside.{Outside}
use Rattle.tp_ancestry.specs.PastSets.{bits, prefix_of, IsPastSetIn}
use Rattle.tp_history.specs.Since.{marks_since}

-- for each change of C whether it is marked as outside
abbrev pub marked_of : OutsideMarks → List ChangeParts → List Bool
marked_of (Beyond past_set) C = map not (bits past_set C)
marked_of (Named v) C = v.items

-- It tells of just the changes of C.
abbrev pub AreOutsideMarks : OutsideMarks → List ChangeParts → Type 0
AreOutsideMarks (Beyond past_set) C = IsPastSetIn past_set C
AreOutsideMarks (Named v) C = length v.items ≡ length C

-- a place before which no change is marked as outside
abbrev pub first_place_of : OutsideMarks → ℕ
first_place_of (Beyond past_set) = prefix_of past_set
first_place_of (Named v) = 0

-- It tells of each change of C whether it is outside the past of H, or K names it.
pub record IsOutside (C : List ChangeParts) (H K : List Hash) (o : Outside) : Type 0 where
  pub well : AreOutsideMarks o.marked C
  pub marks : marked_of o.marked C ≡ marks_since C H K

-- The place is the first from another one on that is marked, or is after all marks.
pub record IsNext (marks : List Bool) (from place : ℕ) : Type 0 where
  pub beyond : from ≤ place
  pub none : (k : ℕ) → from ≤ k → k < place → get_or marks k false ≡ false
  pub at : place < length marks → IsTrue (get_or marks place false)

-- The place is the first from one on that is marked, or isn't before the place `to`.
pub record IsNextBefore (marks : List Bool) (from to place : ℕ) : Type 0 where
  pub beyond : from ≤ place
  pub none : (k : ℕ) → from ≤ k → k < place → get_or marks k false ≡ false
  pub at : place < to → IsTrue (get_or marks place false)
