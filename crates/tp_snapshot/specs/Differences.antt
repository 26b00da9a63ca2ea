-- The differences between two texts of a document, over the one list of all its elements: the replacements that lead
-- from the text that some changes show to the text that others show. Positions and lengths count Unicode scalar values.
use Rattle.std.specs.Prelude.{◌≡◌, ℕ, ◌+◌, ◌-◌, ◌<◌, ◌≤◌, ◌==◌, ◌&&◌, Bool, not, false, List, [], ◌∷◌, ◌++◌, length, filter, if◌then◌else◌}
use Rattle.tp_change.specs.Elements.{is_inserted}
use Rattle.tp_edit.specs.Splices.{splice_at}
use Rattle.tp_snapshot.specs.Common.{In, Insert, ChangeParts, inserts, deletes, IsInOrder, IsTextOf, is_removed, chars_of}
use Rattle.tp_snapshot.specs.declared.differences.Difference.{Difference}

-- whether the text of the changes shows the element: they insert it, and none of them deletes it
abbrev pub is_visible : List ChangeParts → Insert → Bool
is_visible C e = is_inserted (inserts C) e.id && not (is_removed (deletes C) e.id)

-- one difference, or none where it would change nothing
abbrev pub difference_if_any : ℕ → ℕ → List ℕ → List Difference
difference_if_any at del text =
    if ((del == 0) && (length text == 0)) then [] else (record { at = at; del = del; text = text } ∷ [])

-- The differences over the elements that are left, where one begins at a position, has deleted a number of characters
-- and inserted this text so far: an element that both texts show ends it, and each other one that some text shows adds
-- to it.
abbrev pub differences_from : (Insert → Bool) → (Insert → Bool) → ℕ → ℕ → List ℕ → List Insert → List Difference
differences_from was is at del text [] = difference_if_any at del text
differences_from was is at del text (e ∷ L) =
    if was e
    then (if is e then difference_if_any at del text ++ differences_from was is (at + length text + 1) 0 [] L else differences_from was is at (del + 1) text L)
    else (if is e then differences_from was is at del (text ++ e.ch ∷ []) L else differences_from was is at del text L)

-- the text with each difference done in turn
abbrev pub after_differences : List ℕ → List Difference → List ℕ
after_differences t [] = t
after_differences t (d ∷ ds) = after_differences (splice_at t d.at d.del d.text) ds

-- Each difference is within the text that the ones before it leave, where the first meets one of `len` characters.
abbrev pub AllInText : ℕ → List Difference → Type 0
AllInText len [] = Unit {0}
AllInText len (d ∷ ds) = (d.at + d.del ≤ len) × AllInText (len - d.del + length d.text) ds

-- Each difference changes something, and begins at that position or after it: after the one before it and one
-- character more, which both texts show.
abbrev pub AllSeparate : ℕ → List Difference → Type 0
AllSeparate n [] = Unit {0}
AllSeparate n (d ∷ ds) = (n ≤ d.at) × (0 < d.del + length d.text) × AllSeparate (d.at + length d.text + 1) ds

-- no element of the list passes the test
abbrev pub NonePasses : (Insert → Bool) → List Insert → Type 0
NonePasses p L = (e : Insert) → In e L → p e ≡ false

-- The differences, where the first counts from n on, make the elements B of A, and leave each that both texts show:
-- what one deletes the new text doesn't show, and what it inserts the old one didn't.
abbrev pub KeepsShared : (Insert → Bool) → (Insert → Bool) → List Insert → List Insert → ℕ → List Difference → Type 0
KeepsShared was is A B n [] = A ≡ B
KeepsShared was is A B n (d ∷ ds) =
    (stay : List Insert) × (gone : List Insert) × (come : List Insert) × (X : List Insert) × (Y : List Insert)
    × (A ≡ stay ++ (gone ++ X)) × (B ≡ stay ++ (come ++ Y))
    × NonePasses is gone × NonePasses was come
    × (d.at ≡ n + length stay) × (d.del ≡ length gone) × (d.text ≡ chars_of come)
    × KeepsShared was is X Y (d.at + length d.text) ds

-- The differences are those between the texts of P and of Q, which are among the changes C: element by element, in the
-- order of the text.
pub record AreDifferences (C P Q : List ChangeParts) (ds : List Difference) : Type 0 where
  pub elements : List Insert
  pub order : IsInOrder (inserts C) elements
  pub each : ds ≡ differences_from (is_visible P) (is_visible Q) 0 0 [] elements
  pub keeps : KeepsShared (is_visible P) (is_visible Q) (filter (is_visible P) elements) (filter (is_visible Q) elements) 0 ds

-- Done in turn, the differences lead from the text of P to that of Q. Each is in range for an edit there, and no two
-- could be one.
pub record LeadsTo (P Q : List ChangeParts) (ds : List Difference) : Type 0 where
  pub text : (t : List ℕ) → IsTextOf P t → IsTextOf Q (after_differences t ds)
  pub range : (t : List ℕ) → IsTextOf P t → AllInText (length t) ds
  pub separate : AllSeparate 0 ds

-- ---- how they are made

-- The difference that is made, and those before it.
pub record BuilderState : Type 0 where
  pub at : ℕ
  pub del : ℕ
  pub text : List ℕ
  pub found : List Difference

-- all differences, where these elements are left
abbrev pub all_differences : (Insert → Bool) → (Insert → Bool) → BuilderState → List Insert → List Difference
all_differences was is b L = b.found ++ differences_from was is b.at b.del b.text L

-- how many characters the new text has up to here, and those that the difference deletes
abbrev pub count_up_to : BuilderState → ℕ
count_up_to b = b.at + length b.text + b.del

-- The builder took an element with this character, which the old text shows or doesn't, and the new one does or doesn't.
abbrev pub TakesElement : BuilderState → BuilderState → Bool → Bool → ℕ → Type 0
TakesElement b b' shown shows ch =
    (was is : Insert → Bool) (e : Insert) (L : List Insert) → was e ≡ shown → is e ≡ shows → e.ch ≡ ch
    → all_differences was is b (e ∷ L) ≡ all_differences was is b' L
