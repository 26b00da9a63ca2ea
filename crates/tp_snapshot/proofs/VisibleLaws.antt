-- Which elements changes show, and which of them a view shows.
use Rattle.std.proofs.Common.{filter}
use Rattle.tp_snapshot.proofs.Common.{◌≡◌, ℕ, List, [], ◌∷◌, Bool, true, not, ◌&&◌, cond, refl, sym, ap, ◌∙◌, subst, Actor, Hash, OpId, Insert, ChangeParts, In, inserts, deletes, is_removed, visible_of, chars_of, IsTextOf, past, Sound, sound_pasts, DocumentInvariant, has_op, IsClockOf, inserts_by, deletes_by, shown_by, same_test, In-filter, filter-In, IsInOrder, ◌-◌, ◌<◌, ◌≤◌, ◌⊎◌, arith, length, take, drop, slice_get, Some, In-slice_get, inserts_tree, inl, inr}
use Rattle.tp_change.specs.Elements.{is_inserted}
use Rattle.tp_change.proofs.ElementLaws.{is_inserted-In, In-is_inserted, is_inserted-member}
use Rattle.tp_rga.proofs.OneOrder.{is_removed-same}
use Rattle.tp_rga.proofs.Flagging.{filter_agree_in}
use Rattle.tp_snapshot.proofs.PastElements.{inserts_of_past, deletes_of_past, DocumentInvariant-past, shown_of_past}
use Rattle.tp_snapshot.proofs.ShowingLaws.{DocumentInvariant-text, one_text}
use Rattle.tp_snapshot.proofs.SnapshotLaws.{is_shown, shown_first}
use Rattle.tp_snapshot.proofs.DifferenceLaws.{IsShownBy, differences_keep, differences_lead, differences_same}
use Rattle.tp_snapshot.specs.declared.differences.Difference.{Difference}
use Rattle.tp_snapshot.specs.declared.snapshot.Snapshot.{Snapshot}
use Rattle.tp_snapshot.specs.declared.views.View.TheVariants.{Now, At}
use Rattle.tp_snapshot.specs.Views.{is_in_view}
use Rattle.tp_snapshot.specs.declared.window.Reach.{Reach}
use Rattle.tp_snapshot.specs.declared.window.Window.{Window}
use Rattle.tp_snapshot.specs.Windows.{HasOutside, HasReach, IsInReach, IsWindowOf, part_of}
use Rattle.std.proofs.lemmas.Option.{slice_get_within}
use Rattle.tp_rga.proofs.OneOrder.{present_once}
use Rattle.tp_snapshot.proofs.WindowLaws.{In-drop_index, In-take_index, alike_outside, differences_window, outside_keeps}
use Rattle.tp_snapshot.specs.Differences.{AreDifferences, KeepsShared, LeadsTo, differences_from, is_visible}

-- an element of the whole is one of the past exactly where its operation is
pub inserted_by_clock : (C : List ChangeParts) (H : List Hash) (K : List (Actor × ℕ)) (e : Insert) → Sound C → IsClockOf K (past C H) → In e (inserts C) → has_op K e.id ≡ is_inserted (inserts (past C H)) e.id
inserted_by_clock C H K e s ends i =
    let P = past C H in
    let same = inserts_of_past C H K s ends in
    same_test (has_op K e.id) (is_inserted (inserts P) e.id)
    (λ t. In-is_inserted (inserts P) e e.id (same.there e (filter-In (λ (x : Insert). has_op K x.id) (inserts C) e i t)) refl)
    (λ t.
    let w = is_inserted-In (inserts P) e.id t in
    sym (ap (has_op K) w.2) ∙ (In-filter (λ (x : Insert). has_op K x.id) (inserts C) w.0 (same.back w.0 w.1)).1)

-- what the clock's operations show is what the past shows
pub visible_in_past : (C : List ChangeParts) (L : List Insert) (R : List (OpId × OpId)) (H : List Hash) (K : List (Actor × ℕ)) → DocumentInvariant C L R → IsClockOf K (past C H) → (e : Insert) → In e L → is_shown K R e ≡ is_visible (past C H) e
visible_in_past C L R H K h ends e i =
    let in_all : In e (inserts C) = h.order.same.back e i in
    ap (λ b. b && not (is_removed (deletes_by K R) e.id)) (inserted_by_clock C H K e h.sound ends in_all)
    ∙ ap (λ b. is_inserted (inserts (past C H)) e.id && not b) (ap (λ Q. is_removed (deletes_by K Q) e.id) h.deletes ∙ is_removed-same (deletes_by K (deletes C)) (deletes (past C H)) (deletes_of_past C H K h.sound ends) e.id)

-- what isn't deleted is what all changes show
pub visible_now : (C : List ChangeParts) (L : List Insert) (R : List (OpId × OpId)) → DocumentInvariant C L R → (e : Insert) → In e L → not (is_removed R e.id) ≡ is_visible C e
visible_now C L R h e i =
    let there : is_inserted (inserts C) e.id ≡ true = is_inserted-member (inserts C) e (h.order.same.back e i) in
    ap (λ Q. not (is_removed Q e.id)) h.deletes ∙ ap (λ b. b && not (is_removed (deletes C) e.id)) (sym there)

-- one test after another is both at once
shown_by_test : (K : List (Actor × ℕ)) (R : List (OpId × OpId)) (L : List Insert) → shown_by K R L ≡ filter (is_shown K R) L
shown_by_test K R [] = refl
shown_by_test K R (e ∷ L) = shown_first K R e L ∙ ap (λ M. cond (is_shown K R e) (e ∷ M) M) (shown_by_test K R L)

-- the elements that the past shows spell its text
pub past_is_shown : (C : List ChangeParts) (L : List Insert) (R : List (OpId × OpId)) (H : List Hash) (K : List (Actor × ℕ)) → DocumentInvariant C L R → IsClockOf K (past C H) → IsShownBy (past C H) (filter (is_visible (past C H)) L)
past_is_shown C L R H K h ends =
    let P = past C H in
    let same : visible_of (deletes P) (inserts_by K L) ≡ filter (is_visible P) L =
    sym (shown_of_past C L R H K h ends) ∙ shown_by_test K R L ∙ filter_agree_in (is_shown K R) (is_visible P) L (visible_in_past C L R H K h ends) in
    let text : IsTextOf P (chars_of (filter (is_visible P) L)) = subst (λ l. IsTextOf P (chars_of l)) same (DocumentInvariant-text P (inserts_by K L) (deletes P) (DocumentInvariant-past C L R H K h ends)) in
    record { text = text; one = λ t is. one_text P t (chars_of (filter (is_visible P) L)) (sound_pasts C h.sound H) is text }

-- and so do those that all changes show
pub all_are_shown : (C : List ChangeParts) (L : List Insert) (R : List (OpId × OpId)) → DocumentInvariant C L R → IsShownBy C (filter (is_visible C) L)
all_are_shown C L R h =
    let same : visible_of R L ≡ filter (is_visible C) L = filter_agree_in (λ (e : Insert). not (is_removed R e.id)) (is_visible C) L (visible_now C L R h) in
    let text : IsTextOf C (chars_of (filter (is_visible C) L)) = subst (λ l. IsTextOf C (chars_of l)) same (DocumentInvariant-text C L R h) in
    record { text = text; one = λ t is. one_text C t (chars_of (filter (is_visible C) L)) h.sound is text }

-- ---- the differences of a document

-- Outside the window P shows what C does.
abbrev pub AreAlike : List ChangeParts → List ChangeParts → List Insert → Window → Type 0
AreAlike C P L w = (k : ℕ) (e : Insert) → slice_get L k ≡ Some e → (k < w.from) ⊎ (w.to ≤ k) → is_visible P e ≡ is_visible C e

pub alike_past : (C : List ChangeParts) (L : List Insert) (R : List (OpId × OpId)) (H : List Hash) (r : Reach) (w : Window) → DocumentInvariant C L R → HasOutside r L C H (length C) → HasReach w r L → AreAlike C (past C H) L w
alike_past C L R H r w h has wide k e at side =
    alike_outside C L H r k e h.order (present_once (inserts C) L (inserts_tree C h.sound) h.order) has at (In-slice_get L k e at) (λ i.
    let v = wide k (slice_get_within L k e at) i in
    elim side as (λ _. ⊥) [ inl low ↦ omega (arith, v.0) | inr high ↦ omega (arith, v.1) ])

pub alike_now : (C : List ChangeParts) (L : List Insert) (w : Window) → AreAlike C C L w
alike_now C L w k e at side = refl

In_part : (L : List Insert) (n m : ℕ) (e : Insert) → In e (take n (drop m L)) → In e L
In_part L n m e i =
    let a = In-take_index (drop m L) n e i in
    let b = In-drop_index L m e (In-slice_get (drop m L) a.0 e a.2) in
    In-slice_get L b.0 e b.2

-- the differences over the window are those over all elements
pub window_is_all : (C P Q : List ChangeParts) (L : List Insert) (R : List (OpId × OpId)) (w : Window) (was is : Insert → Bool) (ds : List Difference) → DocumentInvariant C L R → IsWindowOf w L R → AreAlike C P L w → AreAlike C Q L w
    → ((e : Insert) → In e L → was e ≡ is_visible P e) → ((e : Insert) → In e L → is e ≡ is_visible Q e)
    → ds ≡ differences_from was is w.at 0 [] (part_of w L) → ds ≡ differences_from (is_visible P) (is_visible Q) 0 0 [] L
window_is_all C P Q L R w was is ds h of old new f g e =
    let p = is_visible P in
    let q = is_visible Q in
    let A = take w.from L in
    let first : (x : Insert) → In x A → (k : ℕ) × (k < w.from) × (slice_get L k ≡ Some x) = λ x i. In-take_index L w.from x i in
    let left : visible_of R A ≡ filter q A =
    filter_agree_in (λ (x : Insert). not (is_removed R x.id)) q A (λ x i.
    let v = first x i in
    visible_now C L R h x (In-slice_get L v.0 x v.2) ∙ sym (new v.0 x v.2 (inl v.1))) in
    e
    ∙ differences_same was is p q (part_of w L) (λ x i. f x (In_part L (w.to - w.from) w.from x i)) (λ x i. g x (In_part L (w.to - w.from) w.from x i)) w.at 0 []
    ∙ sym (differences_window p q L w.from w.to w.at of.rises (of.at ∙ ap length left)
    (λ x i. let v = first x i in old v.0 x v.2 (inl v.1) ∙ sym (new v.0 x v.2 (inl v.1)))
    (λ x i. let v = In-drop_index L w.to x i in old v.0 x v.2 (inr v.1) ∙ sym (new v.0 x v.2 (inr v.1))))

pub are_of : (C P Q : List ChangeParts) (L : List Insert) (ds : List Difference) → IsInOrder (inserts C) L → ds ≡ differences_from (is_visible P) (is_visible Q) 0 0 [] L → AreDifferences C P Q ds
are_of C P Q L ds order each =
    let p = is_visible P in
    let q = is_visible Q in
    record {
      elements = L;
      order = order;
      each = each;
      keeps = subst (KeepsShared p q (filter p L) (filter q L) 0) (sym each) (differences_keep p q L);
    }

-- what was found between two pasts
pub between_is : (C : List ChangeParts) (L : List Insert) (R : List (OpId × OpId)) (H G : List Hash) (s u : Snapshot) (K M : List (Actor × ℕ)) (r r' : Reach) (w : Window) (ds : List Difference) → DocumentInvariant C L R
    → s.clock ≡ K → IsClockOf K (past C H) → u.clock ≡ M → IsClockOf M (past C G) → HasOutside r L C H (length C) → ((k : ℕ) → IsInReach r k → IsInReach r' k) → HasOutside r' L C G (length C) → IsWindowOf w L R → HasReach w r' L
    → ds ≡ differences_from (is_in_view (At s) R) (is_in_view (At u) R) w.at 0 [] (part_of w L) → ds ≡ differences_from (is_visible (past C H)) (is_visible (past C G)) 0 0 [] L
between_is C L R H G s u K M r r' w ds h sk ends um more has keeps also of wide e =
    window_is_all C (past C H) (past C G) L R w (is_in_view (At s) R) (is_in_view (At u) R) ds h of
    (alike_past C L R H r' w h (outside_keeps r r' L C H (length C) has keeps) wide) (alike_past C L R G r' w h also wide)
    (visible_in_past C L R H s.clock h (subst (λ x. IsClockOf x (past C H)) (sym sk) ends)) (visible_in_past C L R G u.clock h (subst (λ x. IsClockOf x (past C G)) (sym um) more)) e

-- and between a past and now
pub since_is : (C : List ChangeParts) (L : List Insert) (R : List (OpId × OpId)) (H : List Hash) (s : Snapshot) (K : List (Actor × ℕ)) (r : Reach) (w : Window) (ds : List Difference) → DocumentInvariant C L R
    → s.clock ≡ K → IsClockOf K (past C H) → HasOutside r L C H (length C) → IsWindowOf w L R → HasReach w r L
    → ds ≡ differences_from (is_in_view (At s) R) (is_in_view Now R) w.at 0 [] (part_of w L) → ds ≡ differences_from (is_visible (past C H)) (is_visible C) 0 0 [] L
since_is C L R H s K r w ds h sk ends has of wide e =
    window_is_all C (past C H) C L R w (is_in_view (At s) R) (is_in_view Now R) ds h of
    (alike_past C L R H r w h has wide) (alike_now C L w)
    (visible_in_past C L R H s.clock h (subst (λ x. IsClockOf x (past C H)) (sym sk) ends)) (visible_now C L R h) e

pub between_leads : (C : List ChangeParts) (L : List Insert) (R : List (OpId × OpId)) (H G : List Hash) (K M : List (Actor × ℕ)) (ds : List Difference) → DocumentInvariant C L R → IsClockOf K (past C H) → IsClockOf M (past C G)
    → ds ≡ differences_from (is_visible (past C H)) (is_visible (past C G)) 0 0 [] L → LeadsTo (past C H) (past C G) ds
between_leads C L R H G K M ds h ends more e = differences_lead (past C H) (past C G) L ds (past_is_shown C L R H K h ends) (past_is_shown C L R G M h more) e

pub since_leads : (C : List ChangeParts) (L : List Insert) (R : List (OpId × OpId)) (H : List Hash) (K : List (Actor × ℕ)) (ds : List Difference) → DocumentInvariant C L R → IsClockOf K (past C H)
    → ds ≡ differences_from (is_visible (past C H)) (is_visible C) 0 0 [] L → LeadsTo (past C H) C ds
since_leads C L R H K ds h ends e = differences_lead (past C H) C L ds (past_is_shown C L R H K h ends) (all_are_shown C L R h) e
