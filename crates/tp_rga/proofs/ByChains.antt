-- The order straight from its definition: steps of its loops.
use Rattle.std.proofs.Common.{◌≡◌, inl, inr, ℕ, zero, suc, ◌+◌, ◌<◌, ◌≤◌, Bool, true, false, not, ◌&&◌, ◌||◌, ◌==◌, cond, Some, List, [], ◌∷◌, ◌++◌, length, take, drop, get_or, insert, filter, refl, sym, ap, ◌∙◌, subst, arith, ltb, eq-eqb, MatchBool}
use Rattle.std.specs.List.{AllWithin, HoldsAt, list_all}
use Rattle.std.proofs.lemmas.Bool.Decides.{nat_tests}
use Rattle.std.proofs.lemmas.List.{drop_more, drop_all, take_more, get_or-take, take-append-drop, length-take}
use Rattle.std.proofs.lemmas.Bool.{and_parts, eqb-true}
use Rattle.tp_list.specs.Members.{In, AllIn, SameMembers}
use Rattle.tp_list.proofs.Members.{In-left, In-right, In-append, In-push, In-last, In-index, In-get_or, In-middle}
use Rattle.tp_opid.specs.declared.op_id.OpId.{OpId}
use Rattle.tp_opid.specs.declared.op_id.Place.{Place}
use Rattle.tp_opid.specs.declared.op_id.Place.TheVariants.{Start, After}
use Rattle.tp_opid.specs.Insert.{Insert}
use Rattle.tp_opid.specs.Order.{Below}
use Rattle.tp_opid.specs.Same.{id_eq, place_eq}
use Rattle.tp_opid.specs.Tree.{Inserts, IsThere, IsNew, HasReference, IsReferenceBelow, IsTree}
use Rattle.tp_opid.proofs.Orders.{Below-irreflexive, Below-trans, Below-asym, Below-cases, id_eq-same, id_eq-itself, id_eq-apart, place_eq-same, place_eq-itself}
use Rattle.tp_opid.proofs.Trees.{IsThere-member}
use Rattle.tp_rga.specs.Order.{IsChain, Precedes, Before, IsSortedIn}
use Rattle.tp_rga.specs.Same.{same_insert, agrees, is_only}
use Rattle.tp_rga.proofs.Trees.{Before-chains, Before-trans, Before-cases}
use Rattle.tp_rga.proofs.Orderings.{IsSortedIn-prefix, IsSortedIn-back, IsSortedIn-across, IsSortedIn-join}
use Rattle.tp_rga.proofs.Lookups.{IsFirst}

-- ---- how many elements are below a place

-- the test of the order of identifiers
is_less : OpId → OpId → Bool
is_less a b = elim (Below-cases a b) [ inl h ↦ true | inr h ↦ false ]

-- what is below passes the test
is_less-true : (a b : OpId) → Below a b → is_less a b ≡ true
unfolding is_less
is_less-true a b h =
    elim (Below-cases a b) as (λ c. elim c as (λ _. Bool) [ inl k ↦ true | inr k ↦ false ] ≡ true) [
      | inl k ↦ refl
      | inr (inl e) ↦ absurd (Below-irreflexive b (subst (λ w. Below w b) e h))
      | inr (inr k) ↦ absurd (Below-asym a b h k)
    ]

-- what passes the test is below
is_less-below : (a b : OpId) → is_less a b ≡ true → Below a b
unfolding is_less
is_less-below a b =
    elim (Below-cases a b) as (λ c. elim c as (λ _. Bool) [ inl k ↦ true | inr k ↦ false ] ≡ true → Below a b) [
      | inl k ↦ λ e. k
      | inr k ↦ λ e. cc
    ]

-- how many elements are below an identifier
below_count : List Insert → OpId → ℕ
below_count S x = length (filter (λ (e : Insert). is_less e.id x) S)

-- how far a place is from the start, at most: the number of steps to references is below it
pub rank : List Insert → Place → ℕ
rank S Start = 0
rank S (After x) = suc (below_count S x)

-- fewer pass a test that is narrower and leaves out a member that passed
fewer : {X : Type 0} (p q : X → Bool) (xs : List X) → ((x : X) → p x ≡ true → q x ≡ true) → length (filter p xs) ≤ length (filter q xs)
fewer p q [] narrow = omega arith
fewer p q (x ∷ xs) narrow =
    let rest = fewer p q xs narrow in
    elim (p x) as (λ b. p x ≡ b → length (cond b (x ∷ filter p xs) (filter p xs)) ≤ length (cond (q x) (x ∷ filter q xs) (filter q xs))) [
      | true ↦ λ e. subst (λ b. suc (length (filter p xs)) ≤ length (cond b (x ∷ filter q xs) (filter q xs))) (sym (narrow x e)) (omega arith)
      | false ↦ λ e. elim (q x) as (λ b. length (filter p xs) ≤ length (cond b (x ∷ filter q xs) (filter q xs))) [ true ↦ omega arith | false ↦ rest ]
    ] refl

-- and one fewer, at least, where a member that passed the wider test fails the narrower one
strictly_fewer : {X : Type 0} (p q : X → Bool) (xs : List X) → ((x : X) → p x ≡ true → q x ≡ true) → (y : X) → In y xs → p y ≡ false → q y ≡ true → length (filter p xs) < length (filter q xs)
strictly_fewer p q [] narrow y i out there = absurd i
strictly_fewer p q (x ∷ xs) narrow y (inl i) out there =
    let rest = fewer p q xs narrow in
    let e : p x ≡ false = ap p (sym i) ∙ out in
    let f : q x ≡ true = ap q (sym i) ∙ there in
    subst (λ b. length (cond b (x ∷ filter p xs) (filter p xs)) < length (cond (q x) (x ∷ filter q xs) (filter q xs))) (sym e)
    (subst (λ b. length (filter p xs) < length (cond b (x ∷ filter q xs) (filter q xs))) (sym f) (omega arith))
strictly_fewer p q (x ∷ xs) narrow y (inr i) out there =
    let rest = strictly_fewer p q xs narrow y i out there in
    elim (p x) as (λ b. p x ≡ b → length (cond b (x ∷ filter p xs) (filter p xs)) < length (cond (q x) (x ∷ filter q xs) (filter q xs))) [
      | true ↦ λ e. subst (λ b. suc (length (filter p xs)) < length (cond b (x ∷ filter q xs) (filter q xs))) (sym (narrow x e)) (omega arith)
      | false ↦ λ e. elim (q x) as (λ b. length (filter p xs) < length (cond b (x ∷ filter q xs) (filter q xs))) [ true ↦ omega arith | false ↦ rest ]
    ] refl

-- a step to the reference lowers the rank
pub rank-falls : (S : List Insert) → IsTree S → (x : OpId) (p : Place) → Inserts S x p → rank S p < rank S (After x)
unfolding rank below_count
rank-falls S tree x Start i = omega arith
rank-falls S tree x (After r) i =
    let place = tree.placed _ i.1 in
    let e : Insert = record { id = r; after = place.0.0; ch = place.0.1.0 } in
    let out : is_less r r ≡ false = elim (is_less r r) as (λ b. is_less r r ≡ b → b ≡ false) [ true ↦ λ k. absurd (Below-irreflexive r (is_less-below r r k)) | false ↦ λ k. refl ] refl in
    let less = strictly_fewer (λ (w : Insert). is_less w.id r) (λ (w : Insert). is_less w.id x) S (λ w k. is_less-true w.id x (Below-trans w.id r x (is_less-below w.id r k) place.1)) e place.0.1.1 out (is_less-true r x place.1) in
    omega arith

-- the reference of an element has a place
pub reference_there : (S : List Insert) → IsTree S → (x : OpId) (p : Place) → Inserts S x p → HasReference S p
reference_there S tree x Start i = tt
reference_there S tree x (After r) i = (tree.placed _ i.1).0

-- ---- comparing chains

-- where two chains agree at a place, the comparison goes on after it
pub Precedes-step : (c d : List OpId) (i : ℕ) (z : OpId) → i < length c → i < length d → id_eq (get_or c i z) (get_or d i z) ≡ true → (Precedes (drop i c) (drop i d) → Precedes (drop (i + 1) c) (drop (i + 1) d)) × (Precedes (drop (i + 1) c) (drop (i + 1) d) → Precedes (drop i c) (drop i d))
Precedes-step c d i z in_c in_d same =
    let e = drop_more c i z in_c in
    let f = drop_more d i z in_d in
    let one : get_or c i z ≡ get_or d i z = id_eq-same _ _ same in (
      λ h. elim (subst (λ w. Precedes (get_or c i z ∷ drop (i + 1) c) w) f (subst (λ w. Precedes w (drop i d)) e h)) as (λ _. Precedes (drop (i + 1) c) (drop (i + 1) d)) [
        | inl b ↦ absurd (Below-irreflexive (get_or d i z) (subst (λ w. Below (get_or d i z) w) one b))
        | inr k ↦ k.1
      ],
      λ h. subst (λ w. Precedes w (drop i d)) (sym e) (subst (λ w. Precedes (get_or c i z ∷ drop (i + 1) c) w) (sym f) (inr (one, h))),
    )

-- where two chains differ, the greater identifier precedes
pub Precedes-differs : (c d : List OpId) (i : ℕ) (z : OpId) → i < length c → i < length d → id_eq (get_or c i z) (get_or d i z) ≡ false → (Precedes (drop i c) (drop i d) → Below (get_or d i z) (get_or c i z)) × (Below (get_or d i z) (get_or c i z) → Precedes (drop i c) (drop i d))
Precedes-differs c d i z in_c in_d differ =
    let e = drop_more c i z in_c in
    let f = drop_more d i z in_d in (
      λ h. elim (subst (λ w. Precedes (get_or c i z ∷ drop (i + 1) c) w) f (subst (λ w. Precedes w (drop i d)) e h)) as (λ _. Below (get_or d i z) (get_or c i z)) [
        | inl b ↦ b
        | inr k ↦ absurd (id_eq-apart _ _ differ k.0)
      ],
      λ b. subst (λ w. Precedes w (drop i d)) (sym e) (subst (λ w. Precedes (get_or c i z ∷ drop (i + 1) c) w) (sym f) (inl b)),
    )

-- a chain that the other agrees with to its end precedes where it is shorter
pub Precedes-all_same : (c d : List OpId) (i : ℕ) → length c ≤ i → i ≤ length c → (Precedes (drop i c) (drop i d) → ltb (length c) (length d) ≡ true) × (ltb (length c) (length d) ≡ true → Precedes (drop i c) (drop i d))
Precedes-all_same c d i le ge =
    let e : drop i c ≡ [] = drop_all i c le in (
      λ h. let lt = longer d i (subst (λ w. Precedes w (drop i d)) e h) in grind (arith, nat_tests),
      λ t. let lt : length c < length d = grind (arith, nat_tests) in subst (λ w. Precedes w (drop i d)) (sym e) (first d i (omega arith)),
    )
  where
    longer : (d : List OpId) (i : ℕ) → Precedes [] (drop i d) → i < length d
    longer [] zero h = absurd h
    longer [] (suc i) h = absurd h
    longer (x ∷ d) zero h = omega arith
    longer (x ∷ d) (suc i) h = let r = longer d i h in omega arith

    first : (d : List OpId) (i : ℕ) → i < length d → Precedes [] (drop i d)
    first [] i lt = absurd (omega arith)
    first (x ∷ d) zero lt = tt
    first (x ∷ d) (suc i) lt = first d i (omega arith)

-- ---- an element that a look-up found

-- the insert that a look-up found has its place in the set
pub Inserts-found : (S : List Insert) (x : OpId) (i : ℕ) (e : Insert) → IsFirst (λ (w : Insert). id_eq w.id x) S (Some i) → e ≡ get_or S i e → Inserts S x e.after
Inserts-found S x i e h at =
    let is : e ≡ h.1 = at ∙ ap (λ z. get_or z i e) h.3 ∙ get_or_middle h.0 h.1 h.2 i h.4 e in
    subst (λ (w : Insert). Inserts S x w.after) (sym is)
    (h.1.ch, subst (λ w. In (record { id = w; after = h.1.after; ch = h.1.ch }) S) (id_eq-same h.1.id x h.5) (subst (λ z. In h.1 z) (sym h.3) (In-middle h.0 h.1 h.2)))
  where
    get_or_middle : (A : List Insert) (e : Insert) (B : List Insert) (n : ℕ) → length A ≡ n → (d : Insert) → get_or (A ++ e ∷ B) n d ≡ e
    get_or_middle [] e B zero h d = refl
    get_or_middle [] e B (suc n) h d = absurd (omega arith)
    get_or_middle (a ∷ A) e B zero h d = absurd (omega arith)
    get_or_middle (a ∷ A) e B (suc n) h d = get_or_middle A e B n (omega arith) d

-- ---- what chains say of two elements

-- the comparison of their chains decides which of two elements is first
pub Before-test : (S : List Insert) → IsTree S → (x y : OpId) (c d : List OpId) (b : Bool) → IsChain S x c → IsChain S y d → (b ≡ true → Precedes c d) × (Precedes c d → b ≡ true) → (b ≡ true → Before S x y) × (Before S x y → b ≡ true)
Before-test S tree x y c d b l k h =
    (λ e. (c, d, l, k, h.0 e), λ before. h.1 (Before-chains S tree x y before c d l k))

-- ---- members read by index

-- what is read at an index is a member
pub read_member : (S L : List Insert) → AllIn L S → (i : ℕ) (x : Insert) → i < length L → x ≡ get_or L i x → In x S
read_member S L part i x lt at = subst (λ w. In w S) (sym at) (part (get_or L i x) (In-get_or L i x lt))

-- an element that is opened
pub read_as : (L : List Insert) (i : ℕ) (x r : Insert) → x ≡ r → r ≡ get_or L i r → x ≡ get_or L i x
read_as L i x r view at = view ∙ at ∙ ap (get_or L i) (sym view)

-- what is of a prefix is of the whole
take_part : (S : List Insert) (i : ℕ) → AllIn (take i S) S
take_part S i x j = subst (In x) (take-append-drop i S) (In-left x (take i S) (drop i S) j)

-- the members of a list that has a prefix of a set are of the set
pub part_members : (S : List Insert) (i : ℕ) (L : List Insert) → SameMembers (take i S) L → AllIn L S
part_members S i L same x j = take_part S i x (same.back x j)

-- ---- a list with one more element at its place

-- what holds below an index holds of the members of that prefix
past_members : (P : Insert → Type 0) (L : List Insert) (i : ℕ) → AllWithin P L 0 i → (x : Insert) → In x (take i L) → P x
past_members P L i all x j =
    let r = In-index x (take i L) j in
    let short : r.0 < i = omega (arith, r.1, length-take i L) in
    subst P (sym (get_or-take i L r.0 x short) ∙ r.2 x) (all r.0 x (omega arith) short)

-- what holds at an index holds of the first element after it
not_before_first : (P : Insert → Type 0) (L : List Insert) (i : ℕ) → (i < length L → HoldsAt P L i) → (h : Insert) (B : List Insert) → drop i L ≡ h ∷ B → P h
not_before_first P [] zero stops h B e = cc
not_before_first P [] (suc i) stops h B e = cc
not_before_first P (a ∷ L) zero stops h B e = let same : a ≡ h = cc in subst P same (stops (omega arith) a)
not_before_first P (a ∷ L) (suc i) stops h B e = not_before_first P L i (λ lt d. stops (omega arith) d) h B e

-- a sorted list with one more element, after all that are before it
pub put_sorted : (S : List Insert) → IsTree S → (L : List Insert) → AllIn L S → IsSortedIn S L → (x : Insert) → In x S → IsNew L x.id → (i : ℕ) → AllWithin (λ (e : Insert). Before S e.id x.id) L 0 i → (i < length L → HoldsAt (λ (e : Insert). Before S e.id x.id → ⊥) L i) → IsSortedIn S (insert L i x)
put_sorted S tree L part sorted x x_in new i passed stops =
    let F = take i L in
    let B = drop i L in
    let parts : IsSortedIn S (F ++ B) = subst (IsSortedIn S) (sym (take-append-drop i L)) sorted in
    let beyond : (e : Insert) → In e B → In e L = (λ e j. subst (In e) (take-append-drop i L) (In-right e F B j)) in
    let prefix : (e : Insert) → In e F → Before S e.id x.id = past_members (λ (e : Insert). Before S e.id x.id) L i passed in
    IsSortedIn-join S F (x ∷ B) (IsSortedIn-prefix S F B parts)
    (before_rest S tree x x_in B (IsSortedIn-back S F B parts) (λ e j. part e (beyond e j)) (λ e j. new e (beyond e j)) (not_before_first (λ (e : Insert). Before S e.id x.id → ⊥) L i stops), IsSortedIn-back S F B parts)
    (λ a b j k. elim k as (λ _. Before S a.id b.id) [
      | inl m ↦ subst (λ (w : Insert). Before S a.id w.id) (sym m) (prefix a j)
      | inr m ↦ IsSortedIn-across S F B parts a b j m
    ])
  where
    before_rest : (S : List Insert) → IsTree S → (x : Insert) → In x S → (B : List Insert) → IsSortedIn S B → AllIn B S → IsNew B x.id → ((h : Insert) (C : List Insert) → B ≡ h ∷ C → Before S h.id x.id → ⊥) → (e : Insert) → In e B → Before S x.id e.id
    before_rest S tree x x_in [] sorted part new stops e j = absurd j
    before_rest S tree x x_in (h ∷ C) sorted part new stops e j =
        let head : Before S x.id h.id =
        elim (Before-cases S tree x.id h.id (IsThere-member S x x_in) (IsThere-member S h (part h (inl refl)))) as (λ _. Before S x.id h.id) [
          | inl b ↦ b
          | inr (inl k) ↦ absurd (id_eq-apart h.id x.id (new h (inl refl)) (sym k))
          | inr (inr b) ↦ absurd (stops h C refl b)
        ] in
        elim j as (λ _. Before S x.id e.id) [
          | inl k ↦ subst (λ (w : Insert). Before S x.id w.id) (sym k) head
          | inr k ↦ Before-trans S tree x.id h.id e.id head (sorted.0 e k)
        ]

-- the list has one more of the inserts
pub same_more_put : (S : List Insert) (i : ℕ) (L : List Insert) (n : ℕ) (x : Insert) → i < length S → x ≡ get_or S i x → SameMembers (take i S) L → SameMembers (take (i + 1) S) (insert L n x)
same_more_put S i L n x lt at same =
    let one : take (i + 1) S ≡ take i S ++ x ∷ [] = take_more S i x lt ∙ ap (λ w. take i S ++ w ∷ []) (sym at) in
    let whole : take n L ++ drop n L ≡ L = take-append-drop n L in
    record {
      there = λ e j. elim (In-push e (take i S) x (subst (In e) one j)) as (λ _. In e (insert L n x)) [
        | inl k ↦ elim (In-append e (take n L) (drop n L) (subst (In e) (sym whole) (same.there e k))) as (λ _. In e (insert L n x)) [
          | inl m ↦ In-left e (take n L) (x ∷ drop n L) m
          | inr m ↦ In-right e (take n L) (x ∷ drop n L) (inr m)
        ]
        | inr k ↦ subst (λ w. In w (insert L n x)) (sym k) (In-middle (take n L) x (drop n L))
      ];
      back = λ e j. subst (In e) (sym one) (elim (In-append e (take n L) (x ∷ drop n L) j) as (λ _. In e (take i S ++ x ∷ [])) [
        | inl k ↦ In-left e (take i S) (x ∷ []) (same.back e (subst (In e) whole (In-left e (take n L) (drop n L) k)))
        | inr (inl k) ↦ subst (λ w. In w (take i S ++ x ∷ [])) (sym k) (In-last x (take i S))
        | inr (inr k) ↦ In-left e (take i S) (x ∷ []) (same.back e (subst (In e) whole (In-right e (take n L) (drop n L) k)))
      ]);
    }

-- the list has it already
pub same_more_there : (S : List Insert) → IsTree S → (i : ℕ) (L : List Insert) (x : Insert) → i < length S → x ≡ get_or S i x → SameMembers (take i S) L → IsThere L x.id → SameMembers (take (i + 1) S) L
same_more_there S tree i L x lt at same there =
    let one : take (i + 1) S ≡ take i S ++ x ∷ [] = take_more S i x lt ∙ ap (λ w. take i S ++ w ∷ []) (sym at) in
    let o : Insert = record { id = x.id; after = there.0; ch = there.1.0 } in
    let x_in : In x S = read_member S S (λ w k. k) i x lt at in
    let is : o ≡ x = tree.once o x (part_members S i L same o there.1.1) x_in refl in
    record {
      there = λ e j. elim (In-push e (take i S) x (subst (In e) one j)) as (λ _. In e L) [
        | inl k ↦ same.there e k
        | inr k ↦ subst (λ w. In w L) (is ∙ sym k) there.1.1
      ];
      back = λ e j. subst (In e) (sym one) (In-left e (take i S) (x ∷ []) (same.back e j));
    }

-- ---- the test of a tree

-- inserts that the test finds equal are
same_insert-same : (a b : Insert) → same_insert a b ≡ true → a ≡ b
same_insert-same a b e =
    let ab = and_parts (id_eq a.id b.id && place_eq a.after b.after) (a.ch == b.ch) e in
    let ids = and_parts (id_eq a.id b.id) (place_eq a.after b.after) ab.0 in
    let i = id_eq-same a.id b.id ids.0 in
    let p = place_eq-same a.after b.after ids.1 in
    let c : a.ch ≡ b.ch = eqb-true a.ch b.ch ab.1 in
    made_of a.id b.id a.after b.after a.ch b.ch i p c
  where
    made_of : (i j : OpId) (p q : Place) (c d : ℕ) → i ≡ j → p ≡ q → c ≡ d → (let x : Insert = record { id = i; after = p; ch = c } in x) ≡ record { id = j; after = q; ch = d }
    made_of i j p q c d e f g = cc

-- an insert is found equal to itself
same_insert-itself : (a : Insert) → same_insert a a ≡ true
same_insert-itself a =
    let i = id_eq-itself a.id in
    let p = place_eq-itself a.after in
    let c : (a.ch == a.ch) ≡ true = eq-eqb a.ch a.ch refl in
    cc

-- an insert that agrees with another and has its identifier is it
agrees-same : (e a : Insert) → agrees e a ≡ true → a.id ≡ e.id → a ≡ e
agrees-same e a t same =
    let found : id_eq a.id e.id ≡ true = ap (λ w. id_eq w e.id) same ∙ id_eq-itself e.id in
    same_insert-same a e (subst (λ b. (not b || same_insert a e) ≡ true) found t)

-- an insert that is the other wherever it has its identifier agrees with it
agrees-is : (e a : Insert) → (a.id ≡ e.id → a ≡ e) → agrees e a ≡ true
agrees-is e a h =
    elim (id_eq a.id e.id) as (λ b. id_eq a.id e.id ≡ b → (not b || same_insert a e) ≡ true) [
      | true ↦ λ k. subst (λ w. same_insert w e ≡ true) (sym (h (id_eq-same a.id e.id k))) (same_insert-itself e)
      | false ↦ λ k. refl
    ] refl

-- what passes in a whole list passes at each member
list_all-member : (p : Insert → Bool) (xs : List Insert) → list_all p xs ≡ true → (x : Insert) → In x xs → p x ≡ true
list_all-member p [] e x i = absurd i
list_all-member p (y ∷ xs) e x (inl i) = ap p i ∙ (and_parts (p y) (list_all p xs) e).0
list_all-member p (y ∷ xs) e x (inr i) = list_all-member p xs (and_parts (p y) (list_all p xs) e).1 x i

-- what passes at each member passes in the whole list
list_all-from : (p : Insert → Bool) (xs : List Insert) → ((x : Insert) → In x xs → p x ≡ true) → list_all p xs ≡ true
list_all-from p [] h = refl
list_all-from p (y ∷ xs) h = let here = h y (inl refl) in let rest = list_all-from p xs (λ x i. h x (inr i)) in cc

-- where each insert has its place and is the only one of its identifier, the set is a tree
pub IsTree-from : (S : List Insert) (n : ℕ) → length S ≤ n → AllWithin (λ (e : Insert). IsReferenceBelow S e.id e.after × (is_only S e ≡ true)) S 0 n → IsTree S
IsTree-from S n le all =
    let each : (e : Insert) → In e S → IsReferenceBelow S e.id e.after × (is_only S e ≡ true) = (λ e i.
    let r = In-index e S i in
    subst (λ (w : Insert). IsReferenceBelow S w.id w.after × (is_only S w ≡ true)) (r.2 e) (all r.0 e (omega arith) (omega (arith, r.1)))) in
    record {
      once = λ a b i j e. agrees-same b a (list_all-member (agrees b) S (each b j).1 a i) e;
      placed = λ e i. (each e i).0;
    }

-- an insert beside another of its identifier is in no tree
pub not_tree-only : (S : List Insert) (e : Insert) → In e S → is_only S e ≡ false → IsTree S → ⊥
not_tree-only S e i other tree =
    let yes : is_only S e ≡ true = list_all-from (agrees e) S (λ a j. agrees-is e a (λ same. tree.once a e j i same)) in cc

-- an insert without its place is in no tree
pub not_tree-place : (S : List Insert) (e : Insert) → In e S → (b : Bool) → b ≡ false → (IsReferenceBelow S e.id e.after → b ≡ true) → IsTree S → ⊥
not_tree-place S e i b out test tree = let yes : b ≡ true = test (tree.placed e i) in cc

-- what a look-up says where it finds none
pub new_of : (L : List Insert) (x : OpId) (b : Bool) → MatchBool b (IsThere L x) (IsNew L x) → b ≡ false → IsNew L x
new_of L x true h e = cc
new_of L x false h e = h

-- what a look-up says where it finds an element
pub there_of : (L : List Insert) (x : OpId) (b : Bool) → MatchBool b (IsThere L x) (IsNew L x) → b ≡ true → IsThere L x
there_of L x true h e = h
there_of L x false h e = cc
