-- Elements in blocks: what a look-up of a number says of them, and the place where an insert goes.
use Rattle.tp_list.proofs.Members.{In-get_or}
use Rattle.tp_opid.specs.Tree.{IsThere, IsNew, CanInsert}
use Rattle.std.proofs.Common.{◌≡◌, inl, inr, ℕ, zero, suc, ◌+◌, ◌-◌, ◌<◌, ◌≤◌, true, None, Some, List, [], ◌∷◌, length, take, get_or, insert, map, position, refl, sym, ap, ◌∙◌, subst, arith, length-append}
use Rattle.std.specs.List.{AllWithin, HoldsAt}
use Rattle.std.proofs.lemmas.List.{length-map}
use Rattle.tp_list.specs.Members.{In}
use Rattle.tp_opid.specs.declared.op_id.OpId.{OpId}
use Rattle.tp_opid.specs.declared.op_id.Place.TheVariants.{After}
use Rattle.tp_opid.specs.Insert.{Insert}
use Rattle.tp_opid.specs.Order.{Below}
use Rattle.tp_opid.specs.Same.{id_eq}
use Rattle.tp_opid.proofs.Orders.{id_eq-itself}
use Rattle.tp_opid.specs.Tree.{HasReference}
use Rattle.tp_opid.specs.declared.op_id.Place.{Place}
use Rattle.tp_opid.specs.declared.op_id.Place.TheVariants.{Start}
use Rattle.tp_rga.specs.Order.{EndsAt, IsInserted}
use Rattle.tp_rga.proofs.Lookups.{IsFirst-position, IsThere-found, EndsAt-found, place_found}
use Rattle.tp_elements.specs.Came.{blank, element_at}
use Rattle.tp_elements.proofs.Lists.{below_or_not, get_or-of_map}
use Rattle.tp_elements.proofs.Linking.{number_is}
use Rattle.tp_posindex.specs.Layout.{concat_blocks, block_at, index_at, IsGap, StandsAt}
use Rattle.tp_posindex.proofs.Joining.{index_at-within, index_at-before, get_or-concat_blocks}
use Rattle.tp_posindex.proofs.Laying.{slice_get-there}

-- ---- what holds between spots

-- an empty stretch
pub AllWithin-empty : {X : Type 0} (P : X → Type 0) (xs : List X) (a : ℕ) → AllWithin P xs a a
AllWithin-empty P xs a = λ i d low high. absurd (omega arith)

-- the prefix of a stretch
pub AllWithin-prefix : {X : Type 0} (P : X → Type 0) (xs : List X) (a b c : ℕ) → c ≤ b → AllWithin P xs a b → AllWithin P xs a c
AllWithin-prefix P xs a b c le h = λ i d low high. h i d low (omega arith)

-- two stretches one after another
pub AllWithin-join : {X : Type 0} (P : X → Type 0) (xs : List X) (a b c : ℕ) → AllWithin P xs a b → AllWithin P xs b c → AllWithin P xs a c
AllWithin-join P xs a b c h k = λ i d low high. elim (below_or_not i b) as (λ _. P (get_or xs i d)) [ inl lt ↦ h i d low lt | inr ge ↦ k i d ge high ]

-- a stretch of a block is a stretch of the whole
pub AllWithin-concat_blocks : {X : Type 0} (P : X → Type 0) (bs : List (List X)) (p a b : ℕ) → p < length bs → b ≤ length (block_at bs p) → AllWithin P (block_at bs p) a b → AllWithin P (concat_blocks bs) (index_at bs p a) (index_at bs p b)
AllWithin-concat_blocks P bs p a b lt le h = λ i d low high.
    let j = i - length (concat_blocks (take p bs)) in
    let at : index_at bs p j ≡ i = omega arith in
    let short : j < length (block_at bs p) = omega arith in
    subst P (sym (get_or-concat_blocks bs p j d lt short) ∙ ap (λ n. get_or (concat_blocks bs) n d) at) (h j d (omega arith) (omega arith))

-- what holds at an offset of a block holds at its place
pub HoldsAt-concat_blocks : {X : Type 0} (P : X → Type 0) (bs : List (List X)) (p offset : ℕ) → p < length bs → offset < length (block_at bs p) → HoldsAt P (block_at bs p) offset → HoldsAt P (concat_blocks bs) (index_at bs p offset)
HoldsAt-concat_blocks P bs p offset lt le h = λ d. subst P (sym (get_or-concat_blocks bs p offset d lt le)) (h d)

-- a stretch of a map
pub AllWithin-of_map : {X Y : Type 0} (P : Y → Type 0) (f : X → Y) (xs : List X) (a b : ℕ) (e : X) → b ≤ length xs → AllWithin (λ x. P (f x)) xs a b → AllWithin P (map f xs) a b
AllWithin-of_map P f xs a b e le h = λ i d low high.
    let short : i < length xs = omega arith in
    subst P (sym (get_or-of_map f xs i d e short)) (h i e low high)

-- what holds at a place of a map
pub HoldsAt-of_map : {X Y : Type 0} (P : Y → Type 0) (f : X → Y) (xs : List X) (i : ℕ) (e : X) → i < length xs → HoldsAt (λ x. P (f x)) xs i → HoldsAt P (map f xs) i
HoldsAt-of_map P f xs i e lt h = λ d. subst P (sym (get_or-of_map f xs i d e lt)) (h e)

-- a gap is within the whole
pub gap_within : {X : Type 0} (bs : List (List X)) (p offset : ℕ) → IsGap bs p offset → index_at bs p offset ≤ length (concat_blocks bs)
gap_within bs p offset gap = elim gap.block as (λ _. index_at bs p offset ≤ length (concat_blocks bs)) [
  | inl lt ↦ index_at-within bs p offset lt gap.offset_in
  | inr none ↦ at_start bs p offset none gap.offset_in
]
  where
    at_start : {X : Type 0} (bs : List (List X)) (p offset : ℕ) → bs ≡ [] → offset ≤ length (block_at bs p) → index_at bs p offset ≤ length (concat_blocks bs)
    at_start [] zero offset e h = omega arith
    at_start [] (suc p) offset e h = omega arith
    at_start (b ∷ bs) p offset e h = cc

-- past the last block there is nothing
pub index_at-past : {X : Type 0} (bs : List (List X)) (p offset : ℕ) → length bs ≤ p → length (concat_blocks bs) ≤ index_at bs p offset
index_at-past [] p offset h = omega arith
index_at-past (b ∷ bs) zero offset h = absurd (omega arith)
index_at-past (b ∷ bs) (suc p) offset h =
    let rest = index_at-past bs p offset (omega arith) in
    let l = length-append b (concat_blocks (take p bs)) in
    let r = length-append b (concat_blocks bs) in
    omega arith

-- right after what is somewhere there is a gap
pub gap_after : {X : Type 0} (bs : List (List X)) (p offset : ℕ) (x : X) → StandsAt bs p offset x → IsGap bs p (offset + 1)
gap_after bs p offset x at = record {
  block = inl at.block;
  offset_in = (let there = slice_get-there (block_at bs p) offset x x at.at in let lt = there.0 in omega arith);
}

-- what is somewhere is at its place of the whole
pub present_whole : {X : Type 0} (bs : List (List X)) (p offset : ℕ) (x d : X) → StandsAt bs p offset x → (index_at bs p offset < length (concat_blocks bs)) × (get_or (concat_blocks bs) (index_at bs p offset) d ≡ x)
present_whole bs p offset x d at =
    let there = slice_get-there (block_at bs p) offset x d at.at in
    (index_at-before bs p offset at.block there.0, get_or-concat_blocks bs p offset d at.block there.0 ∙ there.1)

-- ---- elements

-- a member of the elements in their order came
pub In-placed : (E : List Insert) (ks : List ℕ) (e : Insert) → ((k : ℕ) → In k ks → k < length E) → In e (map (element_at E) ks) → In e E
In-placed E [] e below i = absurd i
In-placed E (k ∷ ks) e below (inl is) = subst (λ w. In w E) (sym is) (In-get_or E k blank (below k (inl refl)))
In-placed E (k ∷ ks) e below (inr i) = In-placed E ks e (λ j m. below j (inr m)) i

-- an element whose number is there is a member
pub In-element : (E : List Insert) (ks : List ℕ) (k : ℕ) → In k ks → In (element_at E k) (map (element_at E) ks)
In-element E (j ∷ ks) k (inl e) = inl (ap (element_at E) e)
In-element E (j ∷ ks) k (inr i) = inr (In-element E ks k i)
In-element E [] k i = absurd i

-- what isn't found isn't there
pub none_placed : (E : List Insert) (ks : List ℕ) (x : OpId) → ((k : ℕ) → In k ks → k < length E) → position (λ (e : Insert). id_eq e.id x) E ≡ None → IsNew (map (element_at E) ks) x
none_placed E ks x below e = λ d i. IsFirst-position E x None e d (In-placed E ks d below i)

-- what is found is there
pub found_placed : (E : List Insert) (ks : List ℕ) (x : OpId) (k : ℕ) → In k ks → position (λ (e : Insert). id_eq e.id x) E ≡ Some k → IsThere (map (element_at E) ks) x
found_placed E ks x k i e = IsThere-found (map (element_at E) ks) x (element_at E k) (In-element E ks k i) (number_is E x k e).1

-- the prefix of the elements up to one that is somewhere
pub ends_at : (E : List Insert) (bs : List (List ℕ)) (p offset k : ℕ) → StandsAt bs p offset k → EndsAt (take (index_at bs p (offset + 1)) (map (element_at E) (concat_blocks bs))) (After (element_at E k).id)
ends_at E bs p offset k at =
    let r = (element_at E k).id in
    let whole = present_whole bs p offset k 0 at in
    let named = id_eq-itself r in
    let i = index_at bs p offset in
    let size : length (map (element_at E) (concat_blocks bs)) ≡ length (concat_blocks bs) = length-map (concat_blocks bs) (element_at E) in
    let lt : i < length (map (element_at E) (concat_blocks bs)) = (let l = whole.0 in omega arith) in
    let held : HoldsAt (λ (e : Insert). id_eq e.id r ≡ true) (map (element_at E) (concat_blocks bs)) i =
    (λ d. subst (λ (w : Insert). id_eq w.id r ≡ true) (sym (get_or-of_map (element_at E) (concat_blocks bs) i d 0 whole.0 ∙ ap (element_at E) whole.1)) named) in
    let next : i + 1 ≡ index_at bs p (offset + 1) = omega arith in
    subst (λ n. EndsAt (take n (map (element_at E) (concat_blocks bs))) (After r)) next (EndsAt-found (map (element_at E) (concat_blocks bs)) i r lt held)

-- the reference of an insert that can come is among the elements
pub reference_there : (E : List Insert) (ks : List ℕ) (x : OpId) (p : Place) → ((k : ℕ) → In k ks → k < length E) → CanInsert (map (element_at E) ks) x p → HasReference E p
reference_there E ks x Start below can = tt
reference_there E ks x (After r) below can =
    let there = can.place.0 in
    (there.0, (there.1.0, In-placed E ks (record { id = r; after = there.0; ch = there.1.0 }) below there.1.1))

-- an insert at the place that the code finds is in order
pub inserted_found : (E : List Insert) (ks : List ℕ) (x : Insert) (from to : ℕ) → CanInsert (map (element_at E) ks) x.id x.after → from ≤ to → to ≤ length ks → EndsAt (take from (map (element_at E) ks)) x.after → AllWithin (λ k. Below x.id (element_at E k).id) ks from to → (to < length ks → HoldsAt (λ k. Below x.id (element_at E k).id → ⊥) ks to) → IsInserted (map (element_at E) ks) (insert (map (element_at E) ks) to x) x
inserted_found E ks x from to can le within ends passed stops =
    let size : length (map (element_at E) ks) ≡ length ks = length-map ks (element_at E) in
    place_found (map (element_at E) ks) x from to can le (omega arith) ends
    (AllWithin-of_map (λ (e : Insert). Below x.id e.id) (element_at E) ks from to 0 within passed)
    (λ lt. let short : to < length ks = omega arith in HoldsAt-of_map (λ (e : Insert). Below x.id e.id → ⊥) (element_at E) ks to 0 short (stops short))
