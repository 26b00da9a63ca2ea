-- Chains of a tree of inserts: each element has one and no other, and they grow along with the set. So the order of
-- the elements is a total order.
use Rattle.std.proofs.Common.{◌≡◌, ◌⊎◌, inl, inr, ℕ, zero, suc, List, [], ◌∷◌, ◌++◌, length, reverse, refl, sym, ap, ◌∙◌, subst, arith}
use Rattle.std.proofs.lemmas.List.{reverse-reverse}
use Rattle.tp_list.specs.Members.{In, AllIn}
use Rattle.tp_list.specs.Traces.{Trace}
use Rattle.tp_list.proofs.TraceLaws.{trace_back, trace_ends, trace_grows, trace_once, trace_push, trace_split}
use Rattle.tp_opid.specs.declared.op_id.OpId.{OpId}
use Rattle.tp_opid.specs.declared.op_id.Place.{Place}
use Rattle.tp_opid.specs.declared.op_id.Place.TheVariants.{Start, After}
use Rattle.tp_opid.specs.Insert.{Insert}
use Rattle.tp_opid.specs.Order.{Below}
use Rattle.tp_opid.specs.Tree.{Inserts, IsThere, IsTree}
use Rattle.tp_opid.proofs.Orders.{Below-irreflexive, Below-trans}
use Rattle.tp_rga.specs.Order.{Descends, IsChain, Precedes, Before}
use Rattle.tp_rga.proofs.Chains.{AllBelow, Precedes-irreflexive, Precedes-trans, Precedes-cases}

-- ---- chains grow along with the set

-- what leads to a place does so in a larger set
pub Descends-grow : (S T : List Insert) → AllIn S T → (p : Place) (c : List OpId) (q : Place) → Trace (Descends S) p c q → Trace (Descends T) p c q
Descends-grow S T more = trace_grows (Descends S) (Descends T) (λ p x q d. ((d.0.0, more _ d.0.1), d.1))

-- two elements keep their order in a larger set
pub Before-grow : (S T : List Insert) → AllIn S T → (x y : OpId) → Before S x y → Before T x y
Before-grow S T more x y (c, d, l, k, p) =
    (c, d, Descends-grow S T more Start c (After x) l, Descends-grow S T more Start d (After y) k, p)

-- ---- joining and splitting

-- a chain to a place and an insert there make the chain of that element
pub Descends-push : (S : List Insert) (p : Place) (c : List OpId) (x : OpId) → Trace (Descends S) Start c p → Inserts S x p → IsChain S x (c ++ x ∷ [])
Descends-push S p c x l i = trace_push (Descends S) Start c p x (After x) l (i, refl)

-- a beginning of a chain is the chain of its last identifier
pub chain_prefix : (S : List Insert) (q : List OpId) (b : OpId) (t : List OpId) (x : OpId) → IsChain S x (q ++ b ∷ t) → IsChain S b (q ++ b ∷ []) × IsThere S b
chain_prefix S q b t x l =
    let parts = trace_split (Descends S) Start q (b ∷ t) (After x) l in
    (Descends-push S parts.0 q b parts.1 parts.2.1.0, (parts.0, parts.2.1.0))

-- a chain ends at one element
chain_ends : (S : List Insert) (c : List OpId) (x y : OpId) → IsChain S x c → IsChain S y c → x ≡ y
chain_ends S c x y l k =
    let e : After x ≡ After y = trace_ends (Descends S) (λ p a q r d f. d.1 ∙ sym f.1) Start c (After x) (After y) l k in cc

-- ---- one chain for one element

-- an element of a tree is placed after one place
pub Inserts-once : (S : List Insert) → IsTree S → (x : OpId) (p q : Place) → Inserts S x p → Inserts S x q → p ≡ q
Inserts-once S tree x p q h k = ap (λ (e : Insert). e.after) (tree.once _ _ h.1 k.1 refl)

-- from the reference that names an element of a tree one step leads back
back_once : (S : List Insert) → IsTree S → (q : Place) (x y : OpId) (p r : Place) → Descends S p x q → Descends S r y q → (x ≡ y) × (p ≡ r)
back_once S tree q x y p r d e =
    let same : x ≡ y = (let g : After x ≡ After y = sym d.1 ∙ e.1 in cc) in
    (same, Inserts-once S tree y p r (subst (λ w. Inserts S w p) same d.0) e.0)

-- one chain leads to a place of a tree
pub chain_same : (S : List Insert) → IsTree S → (q : Place) (c d : List OpId) → Trace (Descends S) Start c q → Trace (Descends S) Start d q → c ≡ d
chain_same S tree q c d l k =
    let back : reverse c ≡ reverse d =
    trace_once (λ r x p. Descends S p x r) (back_once S tree) Start (λ x p h. let e : Start ≡ After x = h.1 in cc) q (reverse c) (reverse d)
    (trace_back (Descends S) Start c q l) (trace_back (Descends S) Start d q k) in
    sym (reverse-reverse c) ∙ ap reverse back ∙ reverse-reverse d

-- ---- a chain for each element

-- the list without one of its members
split_out : (C : List Insert) (e : Insert) → In e C → (D : List Insert) × (length C ≡ suc (length D)) × ((y : Insert) → In y C → (y ≡ e) ⊎ In y D)
split_out [] e h = absurd h
split_out (z ∷ C) e (inl h) = (C, refl, λ y i. elim i as (λ _. (y ≡ e) ⊎ In y C) [ inl k ↦ inl (k ∙ sym h) | inr k ↦ inr k ])
split_out (z ∷ C) e (inr h) =
    let s = split_out C e h in (
      z ∷ s.0,
      ap suc s.1,
      λ y i. elim i as (λ _. (y ≡ e) ⊎ In y (z ∷ s.0)) [
        | inl k ↦ inr (inl k)
        | inr k ↦ elim (s.2 y k) as (λ _. (y ≡ e) ⊎ In y (z ∷ s.0)) [ inl m ↦ inl m | inr m ↦ inr (inr m) ]
      ],
    )

-- C has the elements below x, of which each step towards the start leaves one out
chain_from : (S : List Insert) → IsTree S → (n : ℕ) (C : List Insert) → length C ≡ n → (x : OpId) (p : Place) → Inserts S x p → ((e : Insert) → In e S → Below e.id x → In e C) → (c : List OpId) × IsChain S x c
chain_from S tree n C len x Start i below = (x ∷ [], Descends-push S Start [] x refl i)
chain_from S tree zero C len x (After r) i below =
    let place = tree.placed _ i.1 in
    let out = split_out C (record { id = r; after = place.0.0; ch = place.0.1.0 }) (below _ place.0.1.1 place.1) in
    absurd (omega (arith, out.1))
chain_from S tree (suc n) C len x (After r) i below =
    let place = tree.placed _ i.1 in
    let e : Insert = record { id = r; after = place.0.0; ch = place.0.1.0 } in
    let out = split_out C e (below e place.0.1.1 place.1) in
    let shorter : length out.0 ≡ n = omega (arith, out.1) in
    let still : (y : Insert) → In y S → Below y.id r → In y out.0 =
    (λ y j b. elim (out.2 y (below y j (Below-trans y.id r x b place.1))) as (λ _. In y out.0) [
      | inl k ↦ absurd (Below-irreflexive r (subst (λ (w : Insert). Below w.id r) k b))
      | inr k ↦ k
    ]) in
    let up = chain_from S tree n out.0 shorter r place.0.0 place.0.1 still in
    (up.0 ++ x ∷ [], Descends-push S (After r) up.0 x up.1 i)

-- each element of a tree has a chain
pub chain_exists : (S : List Insert) → IsTree S → (x : OpId) → IsThere S x → (c : List OpId) × IsChain S x c
chain_exists S tree x (p, i) = chain_from S tree (length S) S refl x p i (λ e j b. j)

-- identifiers rise along a chain
pub chain_below : (S : List Insert) → IsTree S → (p : Place) (c : List OpId) (y x : OpId) → Trace (Descends S) p c (After y) → Below y x → AllBelow x c
chain_below S tree p [] y x l b = tt
chain_below S tree p (a ∷ []) y x l b = let e : y ≡ a = (let g : After y ≡ After a = l.2 ∙ l.1.1 in cc) in (subst (λ w. Below w x) e b, tt)
chain_below S tree p (a ∷ d ∷ c) y x l b =
    let rest = chain_below S tree l.0 (d ∷ c) y x l.2 b in
    let i : Inserts S d (After a) = subst (Inserts S d) l.1.1 l.2.1.0 in
    (Below-trans a d x (tree.placed _ i.1).1 rest.0, rest)

-- ---- the order of the elements of a tree

-- no element is before itself
pub Before-irreflexive : (S : List Insert) → IsTree S → (x : OpId) → Before S x x → ⊥
Before-irreflexive S tree x (c, d, l, k, p) =
    Precedes-irreflexive d (subst (λ w. Precedes w d) (chain_same S tree (After x) c d l k) p)

-- the order of elements is transitive
pub Before-trans : (S : List Insert) → IsTree S → (x y z : OpId) → Before S x y → Before S y z → Before S x z
Before-trans S tree x y z (c, d, l, k, p) (d', e, k', m, q) =
    (c, e, l, m, Precedes-trans c d e p (subst (λ w. Precedes w e) (chain_same S tree (After y) d' d k' k) q))

-- of two elements not both are before the other
pub Before-asym : (S : List Insert) → IsTree S → (x y : OpId) → Before S x y → Before S y x → ⊥
Before-asym S tree x y h k = Before-irreflexive S tree x (Before-trans S tree x y x h k)

-- of two elements one is before the other, or they are one
pub Before-cases : (S : List Insert) → IsTree S → (x y : OpId) → IsThere S x → IsThere S y → Before S x y ⊎ ((x ≡ y) ⊎ Before S y x)
Before-cases S tree x y h k =
    let c = chain_exists S tree x h in
    let d = chain_exists S tree y k in
    elim (Precedes-cases c.0 d.0) as (λ _. Before S x y ⊎ ((x ≡ y) ⊎ Before S y x)) [
      | inl p ↦ inl (c.0, d.0, c.1, d.1, p)
      | inr (inl e) ↦ inr (inl (chain_ends S c.0 x y c.1 (subst (λ w. IsChain S y w) (sym e) d.1)))
      | inr (inr p) ↦ inr (inr (d.0, c.0, d.1, c.1, p))
    ]

-- of two elements, the one that is before has the chain that precedes
pub Before-chains : (S : List Insert) → IsTree S → (x y : OpId) → Before S x y → (c d : List OpId) → IsChain S x c → IsChain S y d → Precedes c d
Before-chains S tree x y (a, b, l, k, p) c d m n =
    subst (λ w. Precedes w d) (chain_same S tree (After x) a c l m) (subst (λ w. Precedes a w) (chain_same S tree (After y) b d k n) p)
