-- What the window of the changes outside a past leaves out is shown by that past as it is shown now.
use Rattle.std.proofs.Common.{filter, map}
use Rattle.std.proofs.lemmas.List.{drop-drop}
use Rattle.std.proofs.lemmas.Option.{slice_get-get_or}
use Rattle.tp_snapshot.proofs.Common.{◌≡◌, ℕ, suc, zero, ◌+◌, ◌-◌, ◌<◌, ◌≤◌, ◌⊎◌, inl, inr, List, [], ◌∷◌, ◌++◌, length, take, drop, get_or, Bool, true, false, not, ◌&&◌, cond, Some, refl, sym, ap, ◌∙◌, subst, arith, append-nil, take-append-drop, slice_get, option_map, In, Hash, OpId, Insert, id_eq, id_eq-flip, id_eq-itself, id_eq-same, Op, ChangeParts, ops_of, inserts_in, inserts, deletes_in, deletes, is_removed, past, past-In, has_op, deletes_by, inserts-In, In-inserts, IsInOrder, AreTargets, truth, not_true, same_test, ◌||◌}
use Rattle.tp_list.proofs.Members.{In-index}
use Rattle.tp_opid.specs.Tree.{IdsApart}
use Rattle.tp_change.specs.declared.op.Op.TheVariants as op_of
use Rattle.tp_change.specs.Elements.{is_inserted}
use Rattle.tp_change.proofs.ElementLaws.{In-is_inserted}
use Rattle.tp_history.specs.Named.{names, is_needed}
use Rattle.tp_history.specs.Marks.{marks}
use Rattle.tp_ancestry.specs.Outside.{IsNext}
use Rattle.tp_history.specs.Since.{marks_since}
use Rattle.tp_ancestry.proofs.OutsideLaws.{nothing_more}
use Rattle.tp_rga.specs.Shown.{index_in}
use Rattle.tp_rga.proofs.Lookups.{position-cons}
use Rattle.tp_rga.proofs.OneOrder.{is_removed-by, removed_by_member}
use Rattle.tp_snapshot.proofs.PastElements.{In-deletes, deletes-In}
use Rattle.tp_snapshot.proofs.SnapshotLaws.{test_is, removed_before}
use Rattle.tp_snapshot.specs.declared.snapshot.Snapshot.{Snapshot}
use Rattle.tp_snapshot.specs.declared.views.View.TheVariants.{At}
use Rattle.tp_snapshot.specs.declared.window.Reach.{Reach}
use Rattle.tp_snapshot.specs.declared.window.Window.{Window}
use Rattle.tp_snapshot.specs.declared.differences.Difference.{Difference}
use Rattle.tp_snapshot.specs.Windows.{named_element, HasNamed, HasOutside, IsInReach, NoneDeleted, TellsOf}
use Rattle.tp_snapshot.specs.Differences.{difference_if_any, differences_from, is_visible}

-- ---- what a reach has

-- one operation more
pub named_more : (r r' : Reach) (L : List Insert) (done : List Op) (x : Op) → HasNamed r L done → ((k : ℕ) → IsInReach r k → IsInReach r' k) → ((k : ℕ) → index_in L (named_element x) ≡ Some k → IsInReach r' k) → HasNamed r' L (done ++ x ∷ [])
named_more r r' L done x has keeps here id k i at =
    elim (split done i) as (λ _. IsInReach r' k) [
      | inl j ↦ keeps k (has id k j at)
      | inr e ↦ here k (ap (index_in L) (sym e) ∙ at)
    ] where
      split : (xs : List Op) → In id (map named_element (xs ++ x ∷ [])) → In id (map named_element xs) ⊎ (id ≡ named_element x)
      split [] (inl e) = inr e
      split [] (inr none) = absurd none
      split (y ∷ xs) (inl e) = inl (inl e)
      split (y ∷ xs) (inr i) = elim (split xs i) as (λ _. In id (map named_element (y ∷ xs)) ⊎ (id ≡ named_element x)) [ inl j ↦ inl (inr j) | inr e ↦ inr e ]

-- the next change outside
pub outside_more : (r r' : Reach) (L : List Insert) (C : List ChangeParts) (H : List Hash) (n next : ℕ) (c : ChangeParts) → HasOutside r L C H n → ((k : ℕ) → IsInReach r k → IsInReach r' k)
    → n < length C → get_or C n c ≡ c → HasNamed r' L (ops_of c) → IsNext (marks_since C H []) (n + 1) next → HasOutside r' L C H next
outside_more r r' L C H n next c has keeps lt is named skips i d low at marked x k named_x index =
    elim (before_or i n) as (λ _. IsInReach r' k) [
      | inl below ↦ keeps k (has i d below at marked x k named_x index)
      | inr (inl e) ↦
          let there : slice_get C n ≡ Some c = slice_get-get_or C n c lt ∙ ap Some is in
          let same : d ≡ c = one d c (sym at ∙ ap (slice_get C) e ∙ there) in
          named x k (subst (λ (y : ChangeParts). In x (map named_element (ops_of y))) same named_x) index
      | inr (inr above) ↦ absurd (clash (sym marked ∙ skips.none i above low))
    ] where
      before_or : (i n : ℕ) → (i < n) ⊎ ((i ≡ n) ⊎ (n + 1 ≤ i))
      before_or zero zero = inr (inl refl)
      before_or zero (suc n) = inl (omega arith)
      before_or (suc i) zero = inr (inr (omega arith))
      before_or (suc i) (suc n) = elim (before_or i n) as (λ _. (suc i < suc n) ⊎ ((suc i ≡ suc n) ⊎ (suc n + 1 ≤ suc i))) [
        | inl a ↦ inl (omega arith)
        | inr (inl e) ↦ inr (inl (ap suc e))
        | inr (inr b) ↦ inr (inr (omega arith))
      ]

      one : (a b : ChangeParts) → Some a ≡ Some b → a ≡ b
      one a b e = cc

      clash : true ≡ false → ⊥
      clash e = cc

-- a wider reach
pub outside_keeps : (r r' : Reach) (L : List Insert) (C : List ChangeParts) (H : List Hash) (n : ℕ) → HasOutside r L C H n → ((k : ℕ) → IsInReach r k → IsInReach r' k) → HasOutside r' L C H n
outside_keeps r r' L C H n has keeps i d low at marked x k named index = keeps k (has i d low at marked x k named index)

-- ---- a change that isn't outside is in the past

unmarked : (C : List ChangeParts) (H : List Hash) (i : ℕ) (c : ChangeParts) → slice_get C i ≡ Some c → get_or (map not (marks C H)) i false ≡ false → In c (past C H)
unmarked [] H i c e m = cc
unmarked (d ∷ C) H zero c e m =
    let kept : (names H d || is_needed (past C H) d) ≡ true = held (names H d || is_needed (past C H) d) m in
    let same : c ≡ d = one c d (sym e) in
    subst (λ b. In c (cond b (d ∷ past C H) (past C H))) (sym kept) (inl same) where
      held : (b : Bool) → not b ≡ false → b ≡ true
      held true e = refl
      held false e = cc

      one : (a b : ChangeParts) → Some a ≡ Some b → a ≡ b
      one a b e = cc
unmarked (d ∷ C) H (suc i) c e m =
    let rest = unmarked C H i c e m in
    either (names H d || is_needed (past C H) d) rest where
      either : (b : Bool) → In c (past C H) → In c (cond b (d ∷ past C H) (past C H))
      either true i = inr i
      either false i = i

in_past_or : (C : List ChangeParts) (H : List Hash) (i : ℕ) (c : ChangeParts) → slice_get C i ≡ Some c → get_or (marks_since C H []) i false ≡ false → In c (past C H)
in_past_or C H i c at m = unmarked C H i c at (ap (λ ms. get_or ms i false) (nothing_more C H [] refl) ∙ m)

-- ---- an element that no change outside names

insert_names : (ops : List Op) (e : Insert) → In e (inserts_in ops) → In e.id (map named_element ops)
insert_names [] e i = absurd i
insert_names (op_of.Insert id after ch ∷ ops) e (inl same) = inl (ap (λ (x : Insert). x.id) same)
insert_names (op_of.Insert id after ch ∷ ops) e (inr i) = inr (insert_names ops e i)
insert_names (op_of.Delete id target ∷ ops) e i = inr (insert_names ops e i)

delete_names : (ops : List Op) (r : OpId × OpId) → In r (deletes_in ops) → In r.0 (map named_element ops)
delete_names [] r i = absurd i
delete_names (op_of.Insert id after ch ∷ ops) r i = inr (delete_names ops r i)
delete_names (op_of.Delete id target ∷ ops) r (inl same) = inl (ap (λ (x : OpId × OpId). x.0) same)
delete_names (op_of.Delete id target ∷ ops) r (inr i) = inr (delete_names ops r i)

-- what is at an index has that index, where no two have one identifier
index_at_place : (L : List Insert) (k : ℕ) (e : Insert) → IdsApart L → slice_get L k ≡ Some e → index_in L e.id ≡ Some k
index_at_place [] k e apart at = cc
index_at_place (x ∷ L) zero e apart at =
    let same : x ≡ e = one x e at in
    let named : id_eq x.id e.id ≡ true = ap (λ (y : Insert). id_eq y.id e.id) same ∙ id_eq-itself e.id in
    position-cons (λ (y : Insert). id_eq y.id e.id) x L ∙ ap (λ b. cond b (Some 0) (option_map (λ i. suc i) (index_in L e.id))) named where
      one : (a b : Insert) → Some a ≡ Some b → a ≡ b
      one a b e = cc
index_at_place (x ∷ L) (suc k) e apart at =
    let other : id_eq x.id e.id ≡ false = id_eq-flip e.id x.id (apart.0 e (member L k at)) in
    position-cons (λ (y : Insert). id_eq y.id e.id) x L
    ∙ ap (λ b. cond b (Some 0) (option_map (λ i. suc i) (index_in L e.id))) other
    ∙ ap (option_map (λ i. suc i)) (index_at_place L k e apart.1 at) where
      member : (xs : List Insert) (i : ℕ) → slice_get xs i ≡ Some e → In e xs
      member [] i at = cc
      member (y ∷ xs) zero at = inl cc
      member (y ∷ xs) (suc i) at = inr (member xs i at)

-- a change that names it is in the past
names_in_past : (C : List ChangeParts) (L : List Insert) (H : List Hash) (r : Reach) (k : ℕ) (e : Insert) → IdsApart L → HasOutside r L C H (length C) → slice_get L k ≡ Some e → (IsInReach r k → ⊥)
    → (c : ChangeParts) → In c C → In e.id (map named_element (ops_of c)) → In c (past C H)
names_in_past C L H r k e apart has at out c i named =
    let w = In-index c C i in
    let there : slice_get C w.0 ≡ Some c = slice_get-get_or C w.0 c w.1 ∙ ap Some (w.2 c) in
    elim (truth (get_or (marks_since C H []) w.0 false)) as (λ _. In c (past C H)) [
      | inl marked ↦ absurd (out (has w.0 c w.1 there marked e.id k named (index_at_place L k e apart at)))
      | inr free ↦ in_past_or C H w.0 c there free
    ]

pub alike_outside : (C : List ChangeParts) (L : List Insert) (H : List Hash) (r : Reach) (k : ℕ) (e : Insert) → IsInOrder (inserts C) L → IdsApart L → HasOutside r L C H (length C)
    → slice_get L k ≡ Some e → In e L → (IsInReach r k → ⊥) → is_visible (past C H) e ≡ is_visible C e
alike_outside C L H r k e order apart has at i out =
    let P = past C H in
    let back = names_in_past C L H r k e apart has at out in
    let maker = inserts-In C e (order.same.back e i) in
    let in_past : is_inserted (inserts P) e.id ≡ true = In-is_inserted (inserts P) e e.id (In-inserts P maker.0 e (back maker.0 maker.1 (insert_names (ops_of maker.0) e maker.2)) maker.2) refl in
    let in_all : is_inserted (inserts C) e.id ≡ true = In-is_inserted (inserts C) e e.id (order.same.back e i) refl in
    let removed : is_removed (deletes P) e.id ≡ is_removed (deletes C) e.id =
    same_test (is_removed (deletes P) e.id) (is_removed (deletes C) e.id)
    (λ t.
    let d = is_removed-by (deletes P) e.id t in
    let v = deletes-In P d.0 d.1 in
    removed_by_member (deletes C) e.id d.0 (In-deletes C v.0 d.0 (past-In C H v.0 v.1) v.2) d.2)
    (λ t.
    let d = is_removed-by (deletes C) e.id t in
    let v = deletes-In C d.0 d.1 in
    let named : In e.id (map named_element (ops_of v.0)) = subst (λ x. In x (map named_element (ops_of v.0))) (id_eq-same d.0.0 e.id d.2) (delete_names (ops_of v.0) d.0 v.2) in
    removed_by_member (deletes P) e.id d.0 (In-deletes P v.0 d.0 (back v.0 v.1 named) v.2) d.2) in
    ap (λ b. b && not (is_removed (deletes P) e.id)) (in_past ∙ sym in_all) ∙ ap (λ b. is_inserted (inserts C) e.id && not b) removed

-- ---- a view's test

pub tells_at : (s : Snapshot) (R : List (OpId × OpId)) (L : List Insert) (w : Window) → AreTargets s.targets s.clock R → TellsOf (At s) R L w
tells_at s R L w targets k e from to at = test_is s.clock R s.targets e targets

pub tells_none : (s : Snapshot) (R : List (OpId × OpId)) (L : List Insert) (w : Window) → NoneDeleted R L w.from w.to → TellsOf (At s) R L w
tells_none s R L w none k e from to at =
    let left : is_removed R e.id ≡ false = none k e from to at in
    let before : is_removed (deletes_by s.clock R) e.id ≡ false = not_true (is_removed (deletes_by s.clock R) e.id) (λ t. clash (sym (removed_before s.clock R e.id t) ∙ left)) in
    both (has_op s.clock e.id) (is_removed R e.id) (is_removed (deletes_by s.clock R) e.id) _ left before where
      clash : true ≡ false → ⊥
      clash e = cc

      both : (h b c d : Bool) → b ≡ false → c ≡ false → (h && not (b && d)) ≡ (h && not c)
      both h true c d e f = cc
      both h false true d e f = cc
      both h false false d e f = refl

-- ---- tests that agree outside a window make the differences of the window alone

alike_first : (was is : Insert → Bool) (A M : List Insert) → ((e : Insert) → In e A → was e ≡ is e) → (at n : ℕ) → n ≡ at + length (filter is A) → differences_from was is at 0 [] (A ++ M) ≡ differences_from was is n 0 [] M
alike_first was is [] M same at n e = ap (λ m. differences_from was is m 0 [] M) (e_of at n e) where
  e_of : (at n : ℕ) → n ≡ at + 0 → at ≡ n
  e_of at n e = omega arith
alike_first was is (x ∷ A) M same at n e =
    by_tests (was x) (is x) (same x (inl refl)) e (alike_first was is A M (λ y i. same y (inr i)) (at + 0 + 1)) (alike_first was is A M (λ y i. same y (inr i)) at) where
      by_tests : (p q : Bool) → p ≡ q → n ≡ at + length (cond q (x ∷ filter is A) (filter is A))
          → ((m : ℕ) → m ≡ at + 0 + 1 + length (filter is A) → differences_from was is (at + 0 + 1) 0 [] (A ++ M) ≡ differences_from was is m 0 [] M)
          → ((m : ℕ) → m ≡ at + length (filter is A) → differences_from was is at 0 [] (A ++ M) ≡ differences_from was is m 0 [] M)
          → cond p (cond q (differences_from was is (at + 0 + 1) 0 [] (A ++ M)) (differences_from was is at (0 + 1) [] (A ++ M)))
          (cond q (differences_from was is at 0 (x.ch ∷ []) (A ++ M)) (differences_from was is at 0 [] (A ++ M)))
          ≡ differences_from was is n 0 [] M
      by_tests true true e f there here = there n (omega arith)
      by_tests true false e f there here = cc
      by_tests false true e f there here = cc
      by_tests false false e f there here = here n f

alike_last : (was is : Insert → Bool) (C : List Insert) → ((e : Insert) → In e C → was e ≡ is e) → (at del : ℕ) (text : List ℕ) → differences_from was is at del text C ≡ difference_if_any at del text
alike_last was is [] same at del text = refl
alike_last was is (x ∷ C) same at del text =
    let none : differences_from was is (at + length text + 1) 0 [] C ≡ [] = alike_last was is C (λ y i. same y (inr i)) (at + length text + 1) 0 [] in
    let rest = alike_last was is C (λ y i. same y (inr i)) at del text in
    by_tests (was x) (is x) (same x (inl refl)) _ _ _ _ none rest where
      by_tests : (p q : Bool) → p ≡ q → (a b c d : List Difference) → a ≡ [] → d ≡ difference_if_any at del text
          → cond p (cond q (difference_if_any at del text ++ a) b) (cond q c d) ≡ difference_if_any at del text
      by_tests true true e a b c d f g = ap (λ l. difference_if_any at del text ++ l) f ∙ append-nil (difference_if_any at del text)
      by_tests true false e a b c d f g = cc
      by_tests false true e a b c d f g = cc
      by_tests false false e a b c d f g = g

cut_last : (was is : Insert → Bool) (B C : List Insert) → ((e : Insert) → In e C → was e ≡ is e) → (at del : ℕ) (text : List ℕ) → differences_from was is at del text (B ++ C) ≡ differences_from was is at del text B
cut_last was is [] C same at del text = alike_last was is C same at del text
cut_last was is (x ∷ B) C same at del text =
    let ih = cut_last was is B C same in
    by_tests (was x) (is x) (difference_if_any at del text) _ _ _ _ _ _ _ _ (ih (at + length text + 1) 0 []) (ih at (del + 1) text) (ih at del (text ++ x.ch ∷ [])) (ih at del text) where
      by_tests : (p q : Bool) (D a b c d a' b' c' d' : List Difference) → a ≡ a' → b ≡ b' → c ≡ c' → d ≡ d'
          → cond p (cond q (D ++ a) b) (cond q c d) ≡ cond p (cond q (D ++ a') b') (cond q c' d')
      by_tests p q D a b c d a' b' c' d' h i j k = cc

-- the list in three parts
three_parts : (L : List Insert) (from to : ℕ) → from ≤ to → L ≡ take from L ++ (take (to - from) (drop from L) ++ drop to L)
three_parts L from to le =
    let rest : drop (to - from) (drop from L) ≡ drop to L = drop-drop (to - from) from L ∙ ap (λ n. drop n L) (omega arith) in
    let beyond : drop from L ≡ take (to - from) (drop from L) ++ drop to L = sym (take-append-drop (to - from) (drop from L)) ∙ ap (λ z. take (to - from) (drop from L) ++ z) rest in
    sym (take-append-drop from L) ∙ ap (λ z. take from L ++ z) beyond

pub differences_window : (was is : Insert → Bool) (L : List Insert) (from to at : ℕ) → from ≤ to → at ≡ length (filter is (take from L)) → ((e : Insert) → In e (take from L) → was e ≡ is e) → ((e : Insert) → In e (drop to L) → was e ≡ is e)
    → differences_from was is 0 0 [] L ≡ differences_from was is at 0 [] (take (to - from) (drop from L))
differences_window was is L from to at le size before beyond =
    let A = take from L in
    let B = take (to - from) (drop from L) in
    ap (differences_from was is 0 0 []) (three_parts L from to le)
    ∙ alike_first was is A (B ++ drop to L) before 0 at (size ∙ zero_more (length (filter is A)))
    ∙ cut_last was is B (drop to L) beyond at 0 [] where
      zero_more : (n : ℕ) → n ≡ 0 + n
      zero_more n = omega arith

-- ---- indices of members

pub In-take_index : (L : List Insert) (n : ℕ) (e : Insert) → In e (take n L) → (k : ℕ) × (k < n) × (slice_get L k ≡ Some e)
In-take_index [] zero e i = absurd i
In-take_index [] (suc n) e i = absurd i
In-take_index (x ∷ L) zero e i = absurd i
In-take_index (x ∷ L) (suc n) e (inl same) = (zero, omega arith, ap Some (sym same))
In-take_index (x ∷ L) (suc n) e (inr i) = let w = In-take_index L n e i in (suc w.0, omega (arith, w.1), w.2)

pub In-drop_index : (L : List Insert) (n : ℕ) (e : Insert) → In e (drop n L) → (k : ℕ) × (n ≤ k) × (slice_get L k ≡ Some e)
In-drop_index [] zero e i = absurd i
In-drop_index [] (suc n) e i = absurd i
In-drop_index (x ∷ L) zero e (inl same) = (zero, omega arith, ap Some (sym same))
In-drop_index (x ∷ L) zero e (inr i) = let w = In-drop_index L zero e i in (suc w.0, omega arith, w.2)
In-drop_index (x ∷ L) (suc n) e i = let w = In-drop_index L n e i in (suc w.0, omega (arith, w.1), w.2)
