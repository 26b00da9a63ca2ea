-- Look-ups in a list, from indexes to members, and the place that the code finds.
use Rattle.std.proofs.Common.{◌≡◌, inl, inr, ℕ, zero, suc, ◌+◌, ◌-◌, ◌<◌, ◌≤◌, Bool, true, false, not, cond, ltb, Option, Some, None, List, [], ◌∷◌, ◌++◌, length, take, drop, get_or, insert, position, refl, sym, ap, ◌∙◌, subst, arith, append_assoc, MatchBool, length-take}
use Rattle.std.specs.List.{All, AllWithin, HoldsAt, position_or_len}
use Rattle.std.specs.Option.{option_map, is_some}
use Rattle.std.proofs.lemmas.Bool.Decides.{nat_tests}
use Rattle.std.proofs.lemmas.List.{take_more, get_or-take, get_or-drop, take-append-drop, drop-drop}
use Rattle.tp_list.specs.Members.{In}
use Rattle.tp_list.proofs.Members.{SameMembers-sym, In-index, In-get_or, In-middle, All-member}
use Rattle.tp_opid.specs.declared.op_id.OpId.{OpId}
use Rattle.tp_opid.specs.declared.op_id.Place.{Place}
use Rattle.tp_opid.specs.declared.op_id.Place.TheVariants.{After}
use Rattle.tp_opid.specs.Insert.{Insert}
use Rattle.tp_opid.specs.Order.{Below}
use Rattle.tp_opid.specs.Same.{id_eq}
use Rattle.tp_opid.specs.Tree.{IsThere, IsNew, IsReferenceBelow, CanInsert}
use Rattle.tp_opid.proofs.Orders.{id_eq-same, id_eq-itself}
use Rattle.tp_opid.proofs.Trees.{CanInsert-same}
use Rattle.tp_rga.specs.Order.{EndsAt, IsInOrder, IsInserted}
use Rattle.tp_rga.proofs.Places.{StopsAt, put_in_order}

-- ---- the first that passes

-- the first that passes, of a list with one more before it
pub position-cons : {X : Type 0} (p : X → Bool) (x : X) (xs : List X) → position p (x ∷ xs) ≡ cond (p x) (Some 0) (option_map (λ i. suc i) (position p xs))
position-cons p x xs =
    let rest : ℕ = position_or_len p xs in
    elim (p x) as (λ b. cond (ltb (cond (not b) (1 + rest) 0) (suc (length xs))) (Some (cond (not b) (1 + rest) 0)) None ≡ cond b (Some 0) (option_map (λ i. suc i) (cond (ltb rest (length xs)) (Some rest) None))) [
      | true ↦ grind (arith, nat_tests)
      | false ↦ rw (ltb-suc rest (length xs)) (shift (ltb rest (length xs)) rest)
    ]
  where
    ltb-suc : (m n : ℕ) → ltb (1 + m) (suc n) ≡ ltb m n
    ltb-suc m n = grind (arith, nat_tests)

    shift : (b : Bool) (m : ℕ) → cond b (Some (1 + m)) None ≡ option_map (λ i. suc i) (cond b (Some m) None)
    shift true m = ap Some (omega arith)
    shift false m = refl

-- where a look-up finds its element, and that it finds none where there is none
abbrev pub IsFirst : {X : Type 0} → (X → Bool) → List X → Option ℕ → Type 0
IsFirst {X} p xs None = (e : X) → In e xs → p e ≡ false
IsFirst {X} p xs (Some i) = (A : List X) × (e : X) × (B : List X) × (xs ≡ A ++ e ∷ B) × (length A ≡ i) × (p e ≡ true) × ((d : X) → In d A → p d ≡ false)

-- where the first that passes is, of a list with one more before it
IsFirst-cons : {X : Type 0} (p : X → Bool) (x : X) (xs : List X) (b : Bool) → p x ≡ b → (r : Option ℕ) → IsFirst p xs r → IsFirst p (x ∷ xs) (cond b (Some 0) (option_map (λ i. suc i) r))
IsFirst-cons p x xs true e r h = ([], x, xs, refl, refl, e, λ d i. absurd i)
IsFirst-cons p x xs false e None h = λ y i. elim i as (λ _. p y ≡ false) [ inl k ↦ ap p k ∙ e | inr k ↦ h y k ]
IsFirst-cons p x xs false e (Some i) h =
    (x ∷ h.0, h.1, h.2, ap (λ z. x ∷ z) h.3, ap suc h.4, h.5, λ d j. elim j as (λ _. p d ≡ false) [ inl k ↦ ap p k ∙ e | inr k ↦ h.6 d k ])

-- a look-up finds the first that passes
pub position-first : {X : Type 0} (p : X → Bool) (xs : List X) → IsFirst p xs (position p xs)
position-first p [] = λ e i. absurd i
position-first p (x ∷ xs) =
    subst (IsFirst p (x ∷ xs)) (sym (position-cons p x xs)) (IsFirst-cons p x xs (p x) refl (position p xs) (position-first p xs))

-- ---- elements by identifier

-- an element that passes the test for an identifier shows that it is there
pub IsThere-found : (L : List Insert) (x : OpId) (e : Insert) → In e L → id_eq e.id x ≡ true → IsThere L x
IsThere-found L x e i t = (e.after, (e.ch, subst (λ w. In (record { id = w; after = e.after; ch = e.ch }) L) (id_eq-same e.id x t) i))

-- an element with this identifier is not missed
pub IsThere-not_new : (L : List Insert) (x : OpId) → IsThere L x → IsNew L x → ⊥
IsThere-not_new L x there new =
    let itself : id_eq x x ≡ true = id_eq-itself x in
    let apart : id_eq x x ≡ false = new _ there.1.1 in
    cc

-- whether a look-up finds an element
pub found_or_new : (L : List Insert) (x : OpId) (r : Option ℕ) → IsFirst (λ e. id_eq e.id x) L r → MatchBool (is_some r) (IsThere L x) (IsNew L x)
found_or_new L x None h = h
found_or_new L x (Some i) h =
    IsThere-found L x h.1 (subst (λ w. In h.1 w) (sym h.3) (In-middle h.0 h.1 h.2)) h.5

-- whether a look-up finds an element says whether it is there
pub found-position : (L : List Insert) (x : OpId) → MatchBool (is_some (position (λ (e : Insert). id_eq e.id x) L)) (IsThere L x) (IsNew L x)
found-position L x = found_or_new L x _ (position-first (λ (e : Insert). id_eq e.id x) L)

-- ---- the place that the code finds

-- the prefix up to an element with the identifier of the place
pub EndsAt-found : (L : List Insert) (i : ℕ) (r : OpId) → i < length L → HoldsAt (λ (e : Insert). id_eq e.id r ≡ true) L i → EndsAt (take (i + 1) L) (After r)
EndsAt-found [] i r within here = absurd (omega arith)
EndsAt-found (d ∷ L) i r within here =
    (take i (d ∷ L), get_or (d ∷ L) i d, take_more (d ∷ L) i d within, id_eq-same _ r (here d))

-- what holds between two indexes holds of the members between them
AllWithin-member : {X : Type 0} (P : X → Type 0) (xs : List X) (low high : ℕ) → low ≤ high → AllWithin P xs low high → (x : X) → In x (take (high - low) (drop low xs)) → P x
AllWithin-member P xs low high le all x i =
    let r = In-index x (take (high - low) (drop low xs)) i in
    let short : r.0 < high - low = omega (arith, r.1, length-take (high - low) (drop low xs)) in
    let here : get_or xs (low + r.0) x ≡ x = sym (get_or-drop low xs r.0 x) ∙ sym (get_or-take (high - low) (drop low xs) r.0 x short) ∙ r.2 x in
    subst P here (all (low + r.0) x (omega arith) (omega arith))

-- what holds at an index holds of what is after it
StopsAt-found : (L : List Insert) (x : OpId) (to : ℕ) → (to < length L → HoldsAt (λ (e : Insert). Below x e.id → ⊥) L to) → StopsAt x (drop to L)
StopsAt-found [] x zero h = tt
StopsAt-found [] x (suc to) h = tt
StopsAt-found (e ∷ L) x zero h = h (omega arith) e
StopsAt-found (e ∷ L) x (suc to) h = StopsAt-found L x to (λ lt d. h (omega arith) d)

-- a prefix of the empty list
take-nil : {X : Type 0} (n : ℕ) → take {A = X} n [] ≡ []
take-nil zero = refl
take-nil (suc n) = refl

-- a prefix in two parts
take_parts : {X : Type 0} (xs : List X) (low high : ℕ) → low ≤ high → take high xs ≡ take low xs ++ take (high - low) (drop low xs)
take_parts xs zero high h = ap (λ n. take n xs) (omega arith)
take_parts [] (suc low) zero h = absurd (omega arith)
take_parts [] (suc low) (suc high) h = sym (take-nil (suc high - suc low))
take_parts (y ∷ xs) (suc low) zero h = absurd (omega arith)
take_parts (y ∷ xs) (suc low) (suc high) h =
    ap (λ z. y ∷ z) (take_parts xs low high (omega arith) ∙ ap (λ n. take low xs ++ take n (drop low xs)) (omega arith))

-- an insert at the place that the code finds is in order
pub place_found : (L : List Insert) (x : Insert) (from to : ℕ) → CanInsert L x.id x.after → from ≤ to → to ≤ length L → EndsAt (take from L) x.after → AllWithin (λ (e : Insert). Below x.id e.id) L from to → (to < length L → HoldsAt (λ (e : Insert). Below x.id e.id → ⊥) L to) → IsInserted L (insert L to x) x
place_found L x from to can le within ends passed stops =
    let F = take from L in
    let G = take (to - from) (drop from L) in
    let B = drop to L in
    let rest : drop (to - from) (drop from L) ≡ B = drop-drop (to - from) from L ∙ ap (λ n. drop n L) (omega arith) in
    let beyond : drop from L ≡ G ++ B = sym (take-append-drop (to - from) (drop from L)) ∙ ap (λ z. G ++ z) rest in
    let whole : L ≡ F ++ (G ++ B) = sym (take-append-drop from L) ∙ ap (λ z. F ++ z) beyond in
    let prefix : take to L ≡ F ++ G = take_parts L from to le in
    record {
      put = (to, within, refl);
      order = λ S tree order.
          let at_place = put_in_order S F G B x tree (subst (IsInOrder S) whole order) (CanInsert-same L S (SameMembers-sym S L order.same) x.id x.after can) ends (λ e i. AllWithin-member (λ (w : Insert). Below x.id w.id) L from to le passed e i) (StopsAt-found L x.id to stops) in
          subst (IsInOrder (S ++ x ∷ [])) (sym (append_assoc F G (x ∷ B)) ∙ ap (λ z. z ++ x ∷ B) (sym prefix)) at_place;
    }

-- ---- the tests of what an insert needs

-- an element that is there and below is a place for an insert, and only that
pub IsReferenceBelow-test : (L : List Insert) (x r : OpId) (b : Bool) → Below r x → MatchBool b (IsThere L r) (IsNew L r) → (b ≡ true → IsReferenceBelow L x (After r)) × (IsReferenceBelow L x (After r) → b ≡ true)
IsReferenceBelow-test L x r true below h = (λ e. (h, below), λ p. refl)
IsReferenceBelow-test L x r false below h = (λ e. cc, λ p. absurd (IsThere-not_new L r p.0 h))

-- what is there can't be inserted
pub CanInsert-there : (L : List Insert) (x : OpId) (p : Place) (b : Bool) → b ≡ true → MatchBool b (IsThere L x) (IsNew L x) → (not b ≡ true → CanInsert L x p) × (CanInsert L x p → not b ≡ true)
CanInsert-there L x p true e h = (λ k. cc, λ can. absurd (IsThere-not_new L x h can.new))
CanInsert-there L x p false e h = cc

-- the answer of a look-up decides whether an element is there
pub IsThere-test : (L : List Insert) (x : OpId) (b : Bool) → MatchBool b (IsThere L x) (IsNew L x) → (b ≡ true → IsThere L x) × (IsThere L x → b ≡ true)
IsThere-test L x true h = (λ e. h, λ there. refl)
IsThere-test L x false h = (λ e. cc, λ there. absurd (IsThere-not_new L x there h))

-- what a look-up says, by its answer
pub IsFirst-position : (L : List Insert) (x : OpId) (r : Option ℕ) → position (λ (e : Insert). id_eq e.id x) L ≡ r → IsFirst (λ (e : Insert). id_eq e.id x) L r
IsFirst-position L x r e = subst (IsFirst (λ (w : Insert). id_eq w.id x) L) e (position-first (λ (w : Insert). id_eq w.id x) L)

-- what is at a place and has the identifier
pub IsThere-held : (L : List Insert) (x : OpId) (i : ℕ) → i < length L → HoldsAt (λ (e : Insert). id_eq e.id x ≡ true) L i → IsThere L x
IsThere-held [] x i lt held = absurd (omega arith)
IsThere-held (d ∷ L) x i lt held = IsThere-found (d ∷ L) x (get_or (d ∷ L) i d) (In-get_or (d ∷ L) i d lt) (held d)

-- each element has another identifier
pub IsNew-all : (L : List Insert) (x : OpId) → All (λ (e : Insert). id_eq e.id x ≡ false) L → IsNew L x
IsNew-all L x all e there = All-member (λ (y : Insert). id_eq y.id x ≡ false) L all e there
