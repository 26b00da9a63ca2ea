-- Which elements the changes outside a past name, and the part of the list that has them all.
use Rattle.std.specs.Prelude.{◌≡◌, ℕ, ◌-◌, ◌<◌, ◌≤◌, List, [], length, take, drop, map, get_or, false, Some, IsTrue}
use Rattle.tp_change.specs.declared.op.Op.{Op}
use Rattle.tp_change.specs.declared.op.Op.TheVariants as op
use Rattle.tp_change.specs.Operations.{ops_of}
use Rattle.tp_history.specs.Since.{marks_since}
use Rattle.tp_rga.specs.Shown.{index_in, seen_of}
use Rattle.tp_snapshot.specs.Common.{slice_get, In, Hash, OpId, Insert, ChangeParts, is_removed, visible_of}
use Rattle.tp_snapshot.specs.Views.{view_test, is_in_view}
use Rattle.tp_snapshot.specs.declared.views.View.{View}
use Rattle.tp_snapshot.specs.declared.window.Reach.{Reach}
use Rattle.tp_snapshot.specs.declared.window.Reach.TheVariants.{Nothing, Within, Everything}
use Rattle.tp_snapshot.specs.declared.window.Window.{Window}

-- the element that the operation inserts or deletes
abbrev pub named_element : Op → OpId
named_element (op.Insert id after ch) = id
named_element (op.Delete id target) = target

-- The element with the index is one of the reach.
abbrev pub IsInReach : Reach → ℕ → Type 0
IsInReach Nothing k = ⊥
IsInReach (Within first from last) k = (from ≤ k) × (k ≤ last)
IsInReach Everything k = Unit {0}

-- The reach is one of the elements.
abbrev pub IsReachOf : Reach → List Insert → Type 0
IsReachOf Nothing L = Unit {0}
IsReachOf (Within first from last) L = (index_in L first ≡ Some from) × (from ≤ last) × (last < length L)
IsReachOf Everything L = Unit {0}

-- It has each of the elements that the operations name.
abbrev pub HasNamed : Reach → List Insert → List Op → Type 0
HasNamed r L ops = (x : OpId) (k : ℕ) → In x (map named_element ops) → index_in L x ≡ Some k → IsInReach r k

-- It has what each of the first n changes names that is outside the past of H.
abbrev pub HasOutside : Reach → List Insert → List ChangeParts → List Hash → ℕ → Type 0
HasOutside r L C H n = (i : ℕ) (c : ChangeParts) → i < n → slice_get C i ≡ Some c → IsTrue (get_or (marks_since C H []) i false) → HasNamed r L (ops_of c)

-- the elements of the window
abbrev pub part_of : Window → List Insert → List Insert
part_of w L = take (w.to - w.from) (drop w.from L)

-- The window is one of the elements, and its position is how many before it these deletes leave.
pub record IsWindowOf (w : Window) (L : List Insert) (R : List (OpId × OpId)) : Type 0 where
  pub rises : w.from ≤ w.to
  pub within : w.to ≤ length L
  pub at : w.at ≡ length (visible_of R (take w.from L))

-- The window has each element of the reach.
abbrev pub HasReach : Window → Reach → List Insert → Type 0
HasReach w r L = (k : ℕ) → k < length L → IsInReach r k → (w.from ≤ k) × (k < w.to)

-- The view's test tells what it shows of each element of the window.
abbrev pub TellsOf : View → List (OpId × OpId) → List Insert → Window → Type 0
TellsOf v R L w = (k : ℕ) (e : Insert) → w.from ≤ k → k < w.to → slice_get L k ≡ Some e → view_test v (seen_of R e) ≡ is_in_view v R e

-- No element of the list from one index on and before another is deleted.
abbrev pub NoneDeleted : List (OpId × OpId) → List Insert → ℕ → ℕ → Type 0
NoneDeleted R L from to = (k : ℕ) (e : Insert) → from ≤ k → k < to → slice_get L k ≡ Some e → is_removed R e.id ≡ false
