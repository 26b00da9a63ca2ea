-- Where an insert goes: right after its reference, past each element with a greater identifier. There it is in
-- order.
use Rattle.std.proofs.Common.{◌≡◌, ◌⊎◌, inl, inr, List, [], ◌∷◌, ◌++◌, refl, sym, ◌∙◌, subst, append_assoc}
use Rattle.tp_list.specs.Members.{In, AllIn, SameMembers}
use Rattle.tp_list.specs.Traces.{Trace}
use Rattle.tp_list.proofs.Members.{In-left, In-right, In-append, In-push, In-last}
use Rattle.tp_opid.specs.declared.op_id.OpId.{OpId}
use Rattle.tp_opid.specs.declared.op_id.Place.{Place}
use Rattle.tp_opid.specs.declared.op_id.Place.TheVariants.{Start, After}
use Rattle.tp_opid.specs.Insert.{Insert}
use Rattle.tp_opid.specs.Order.{Below}
use Rattle.tp_opid.specs.Tree.{IsThere, IsNew, IsReferenceBelow, IsTree, CanInsert}
use Rattle.tp_opid.proofs.Orders.{Below-cases, id_eq-apart}
use Rattle.tp_opid.proofs.Trees.{IsThere-member, IsTree-push}
use Rattle.tp_rga.specs.Order.{Descends, IsChain, Precedes, Before, IsSortedIn, IsInOrder, EndsAt}
use Rattle.tp_rga.proofs.Chains.{AllBelow, Precedes-irreflexive, Precedes-asym, Precedes-longer, Precedes-prefix, Precedes-beginning, stop_last, passed_first}
use Rattle.tp_rga.proofs.Trees.{Descends-grow, Before-grow, Descends-push, chain_prefix, chain_same, chain_exists, chain_below, Before-trans, Before-chains}
use Rattle.tp_rga.proofs.Orderings.{IsSortedIn-grow, IsSortedIn-prefix, IsSortedIn-back, IsSortedIn-across, IsSortedIn-join}

-- x is below each element
abbrev pub AllAbove : OpId → List Insert → Type 0
AllAbove x G = (e : Insert) → In e G → Below x e.id

-- the first element, if there is one, isn't above x
abbrev pub StopsAt : OpId → List Insert → Type 0
StopsAt x [] = Unit {0}
StopsAt x (h ∷ B) = Below x h.id → ⊥

-- a chain to the place of an insert, all of it below the insert
place_chain : (S : List Insert) → IsTree S → (x : OpId) (p : Place) → IsReferenceBelow S x p → (c : List OpId) × Trace (Descends S) Start c p × AllBelow x c
place_chain S tree x Start h = ([], refl, tt)
place_chain S tree x (After r) h =
    let c = chain_exists S tree r h.0 in (c.0, c.1, chain_below S tree Start c.0 r x c.1 h.1)

-- the chain of an element is no beginning of the empty chain
not_empty : (S : List Insert) (x : OpId) (d : List OpId) → IsChain S x d → Precedes [] d
not_empty S x [] l = let e : After x ≡ Start = l in cc
not_empty S x (y ∷ d) l = tt

-- up to the reference, each chain is the reference's or precedes it
prefix_chains : (S F : List Insert) → IsTree S → IsSortedIn S F → (p : Place) → EndsAt F p → (c : List OpId) → Trace (Descends S) Start c p → (e : Insert) → In e F → (d : List OpId) → IsChain S e.id d → (d ≡ c) ⊎ Precedes d c
prefix_chains S F tree sorted Start ends c l e i d k = absurd (subst (λ w. In e w) ends i)
prefix_chains S F tree sorted (After r) (A, f, is, names) c l e i d k =
    let at_f : IsChain S f.id c = subst (λ w. IsChain S w c) (sym names) l in
    elim (In-push e A f (subst (λ w. In e w) is i)) as (λ _. (d ≡ c) ⊎ Precedes d c) [
      | inl j ↦
          inr (Before-chains S tree e.id f.id (IsSortedIn-across S A (f ∷ []) (subst (IsSortedIn S) is sorted) e f j (inl refl)) d c k at_f)
      | inr j ↦ inl (chain_same S tree (After f.id) d c (subst (λ (w : Insert). IsChain S w.id d) j k) at_f)
    ]

-- after the reference, its chain precedes each
back_chains : (S F B : List Insert) → IsTree S → IsSortedIn S (F ++ B) → (p : Place) → EndsAt F p → (c : List OpId) → Trace (Descends S) Start c p → (e : Insert) → In e B → (d : List OpId) → IsChain S e.id d → Precedes c d
back_chains S F B tree sorted Start ends c l e i d k =
    let none : c ≡ [] = chain_same S tree Start c [] l refl in
    subst (λ w. Precedes w d) (sym none) (not_empty S e.id d k)
back_chains S F B tree sorted (After r) (A, f, is, names) c l e i d k =
    let at_f : IsChain S f.id c = subst (λ w. IsChain S w c) (sym names) l in
    let f_in : In f F = subst (λ w. In f w) (sym is) (In-last f A) in
    Before-chains S tree f.id e.id (IsSortedIn-across S F B sorted f e f_in i) c d at_f k

-- what is passed over is before the new element
passed_before : (S F G B : List Insert) (x : Insert) → IsTree S → IsInOrder S (F ++ (G ++ B)) → EndsAt F x.after → AllAbove x.id G → (c : List OpId) → Trace (Descends S) Start c x.after → AllBelow x.id c → (e : Insert) → In e G → (d : List OpId) → IsChain S e.id d → Precedes d (c ++ x.id ∷ [])
passed_before S F G B x tree order ends above c l small e i d k =
    let after_reference : Precedes c d = back_chains S F (G ++ B) tree order.sorted x.after ends c l e (In-left e G B i) d k in
    passed_first c d x.id small after_reference (λ q b t is p.
    let prefix = chain_prefix S q b t e.id (subst (λ w. IsChain S e.id w) is k) in
    let o : Insert = record { id = b; after = prefix.1.0; ch = prefix.1.1.0 } in
    elim (In-append o F (G ++ B) (order.same.there o prefix.1.1.1)) as (λ _. Below x.id b) [
      | inl j ↦ absurd (
          elim (prefix_chains S F tree (IsSortedIn-prefix S F (G ++ B) order.sorted) x.after ends c l o j (q ++ b ∷ []) prefix.0) as (λ _. ⊥) [
            | inl same ↦ Precedes-irreflexive c (subst (λ w. Precedes c w) same p)
            | inr h ↦ Precedes-asym c (q ++ b ∷ []) p h
          ])
      | inr j ↦ elim (In-append o G B j) as (λ _. Below x.id b) [
        | inl m ↦ above o m
        | inr m ↦ absurd (
            let whole : d ≡ (q ++ b ∷ []) ++ t = is ∙ rw append_assoc refl in
            let h : Precedes d (q ++ b ∷ []) = Before-chains S tree e.id b (IsSortedIn-across S G B (IsSortedIn-back S F (G ++ B) order.sorted) e o i m) d (q ++ b ∷ []) k prefix.0 in
            Precedes-beginning (q ++ b ∷ []) t (subst (λ w. Precedes w (q ++ b ∷ [])) whole h))
      ]
    ])

-- the new element is before the one at which the search stopped
stopped_before : (S F G : List Insert) (h : Insert) (B : List Insert) (x : Insert) → IsTree S → IsInOrder S (F ++ (G ++ h ∷ B)) → IsNew S x.id → EndsAt F x.after → StopsAt x.id (h ∷ B) → (c : List OpId) → Trace (Descends S) Start c x.after → (d : List OpId) → IsChain S h.id d → Precedes (c ++ x.id ∷ []) d
stopped_before S F G h B x tree order new ends stops c l d k =
    let h_in : In h (G ++ h ∷ B) = In-right h G (h ∷ B) (inl refl) in
    let smaller : Below h.id x.id =
    elim (Below-cases x.id h.id) as (λ _. Below h.id x.id) [
      | inl b ↦ absurd (stops b)
      | inr (inl e) ↦ absurd (id_eq-apart h.id x.id (new h (order.same.back h (In-right h F (G ++ h ∷ B) h_in))) (sym e))
      | inr (inr b) ↦ b
    ] in
    stop_last c d x.id (chain_below S tree Start d h.id x.id k smaller) (back_chains S F (G ++ h ∷ B) tree order.sorted x.after ends c l h h_in d k)

-- ---- the members with one more between them

-- a member of the list without the new element is one of the list with it
In-put : (F G B : List Insert) (x e : Insert) → In e (F ++ (G ++ B)) → In e (F ++ (G ++ x ∷ B))
In-put F G B x e i =
    elim (In-append e F (G ++ B) i) as (λ _. In e (F ++ (G ++ x ∷ B))) [
      | inl j ↦ In-left e F (G ++ x ∷ B) j
      | inr j ↦ In-right e F (G ++ x ∷ B) (elim (In-append e G B j) as (λ _. In e (G ++ x ∷ B)) [
        | inl m ↦ In-left e G (x ∷ B) m
        | inr m ↦ In-right e G (x ∷ B) (inr m)
      ])
    ]

-- a member of the list with the new element is one of the list without it, or is it
In-taken : (F G B : List Insert) (x e : Insert) → In e (F ++ (G ++ x ∷ B)) → In e (F ++ (G ++ B)) ⊎ (e ≡ x)
In-taken F G B x e i =
    elim (In-append e F (G ++ x ∷ B) i) as (λ _. In e (F ++ (G ++ B)) ⊎ (e ≡ x)) [
      | inl j ↦ inl (In-left e F (G ++ B) j)
      | inr j ↦ elim (In-append e G (x ∷ B) j) as (λ _. In e (F ++ (G ++ B)) ⊎ (e ≡ x)) [
        | inl m ↦ inl (In-right e F (G ++ B) (In-left e G B m))
        | inr (inl m) ↦ inr m
        | inr (inr m) ↦ inl (In-right e F (G ++ B) (In-right e G B m))
      ]
    ]

-- the list with the new element has the members of the set with it
put_members : (S F G B : List Insert) (x : Insert) → SameMembers S (F ++ (G ++ B)) → SameMembers (S ++ x ∷ []) (F ++ (G ++ x ∷ B))
put_members S F G B x same = record {
  there = λ e i. elim (In-push e S x i) as (λ _. In e (F ++ (G ++ x ∷ B))) [
    | inl j ↦ In-put F G B x e (same.there e j)
    | inr j ↦ subst (λ w. In w (F ++ (G ++ x ∷ B))) (sym j) (In-right x F (G ++ x ∷ B) (In-right x G (x ∷ B) (inl refl)))
  ];
  back = λ e i. elim (In-taken F G B x e i) as (λ _. In e (S ++ x ∷ [])) [
    | inl j ↦ In-left e S (x ∷ []) (same.back e j)
    | inr j ↦ subst (λ w. In w (S ++ x ∷ [])) (sym j) (In-last x S)
  ];
}

-- ---- the theorem

-- the new element is before all that is after it
new_before : (S F G B : List Insert) (x : Insert) → IsTree S → IsInOrder S (F ++ (G ++ B)) → IsNew S x.id → EndsAt F x.after → StopsAt x.id B → (c : List OpId) → Trace (Descends S) Start c x.after → IsTree (S ++ x ∷ []) → (b : Insert) → In b B → Before (S ++ x ∷ []) x.id b.id
new_before S F G [] x tree order new ends stops c l tree' b i = absurd i
new_before S F G (h ∷ B) x tree order new ends stops c l tree' b i =
    let T = S ++ x ∷ [] in
    let more : AllIn S T = (λ e j. In-left e S (x ∷ []) j) in
    let h_in : In h (F ++ (G ++ h ∷ B)) = In-right h F (G ++ h ∷ B) (In-right h G (h ∷ B) (inl refl)) in
    let d = chain_exists S tree h.id (IsThere-member S h (order.same.back h h_in)) in
    let x_chain : IsChain T x.id (c ++ x.id ∷ []) = Descends-push T x.after c x.id (Descends-grow S T more Start c x.after l) (x.ch, In-last x S) in
    let head : Before T x.id h.id = (c ++ x.id ∷ [], d.0, x_chain, Descends-grow S T more Start d.0 (After h.id) d.1, stopped_before S F G h B x tree order new ends stops c l d.0 d.1) in
    elim i as (λ _. Before T x.id b.id) [
      | inl e ↦ subst (λ (w : Insert). Before T x.id w.id) (sym e) head
      | inr j ↦ Before-trans T tree' x.id h.id b.id head (Before-grow S T more h.id b.id ((IsSortedIn-back S G (h ∷ B) (IsSortedIn-back S F (G ++ h ∷ B) order.sorted)).0 b j))
    ]

-- Right after its reference (the end of F), past elements with greater identifiers (G), before one with no greater
-- identifier (the first of B) or at the end, the new element is in order.
pub put_in_order : (S F G B : List Insert) (x : Insert) → IsTree S → IsInOrder S (F ++ (G ++ B)) → CanInsert S x.id x.after → EndsAt F x.after → AllAbove x.id G → StopsAt x.id B → IsInOrder (S ++ x ∷ []) (F ++ (G ++ x ∷ B))
put_in_order S F G B x tree order can ends above stops =
    let T = S ++ x ∷ [] in
    let tree' : IsTree T = IsTree-push S x tree can in
    let more : AllIn S T = (λ e j. In-left e S (x ∷ []) j) in
    let up = place_chain S tree x.id x.after can.place in
    let x_chain : IsChain T x.id (up.0 ++ x.id ∷ []) = Descends-push T x.after up.0 x.id (Descends-grow S T more Start up.0 x.after up.1) (x.ch, In-last x S) in
    let sorted_f = IsSortedIn-prefix S F (G ++ B) order.sorted in
    let sorted_gb = IsSortedIn-back S F (G ++ B) order.sorted in
    let is_there : (e : Insert) → In e (F ++ (G ++ B)) → IsThere S e.id = (λ e i. IsThere-member S e (order.same.back e i)) in
    let f_before : (e : Insert) → In e F → Before T e.id x.id = (λ e i.
    let d = chain_exists S tree e.id (is_there e (In-left e F (G ++ B) i)) in
    let at_prefix = prefix_chains S F tree sorted_f x.after ends up.0 up.1 e i d.0 d.1 in (
      d.0,
      up.0 ++ x.id ∷ [],
      Descends-grow S T more Start d.0 (After e.id) d.1,
      x_chain,
      elim at_prefix as (λ _. Precedes d.0 (up.0 ++ x.id ∷ [])) [
        | inl same ↦ subst (λ w. Precedes w (up.0 ++ x.id ∷ [])) (sym same) (Precedes-prefix up.0 x.id [])
        | inr p ↦ Precedes-longer d.0 up.0 (x.id ∷ []) p
      ],
    )) in
    let g_before : (e : Insert) → In e G → Before T e.id x.id = (λ e i.
    let d = chain_exists S tree e.id (is_there e (In-right e F (G ++ B) (In-left e G B i))) in
    (d.0, up.0 ++ x.id ∷ [], Descends-grow S T more Start d.0 (After e.id) d.1, x_chain, passed_before S F G B x tree order ends above up.0 up.1 up.2 e i d.0 d.1)) in
    let b_after = new_before S F G B x tree order can.new ends stops up.0 up.1 tree' in
    let sorted_xb : IsSortedIn T (x ∷ B) = (b_after, IsSortedIn-grow S T more B (IsSortedIn-back S G B sorted_gb)) in
    let sorted_gxb : IsSortedIn T (G ++ x ∷ B) =
    IsSortedIn-join T G (x ∷ B) (IsSortedIn-grow S T more G (IsSortedIn-prefix S G B sorted_gb)) sorted_xb (λ a b i j.
    elim j as (λ _. Before T a.id b.id) [
      | inl e ↦ subst (λ (w : Insert). Before T a.id w.id) (sym e) (g_before a i)
      | inr m ↦ Before-grow S T more a.id b.id (IsSortedIn-across S G B sorted_gb a b i m)
    ]) in
    record {
      same = put_members S F G B x order.same;
      sorted = IsSortedIn-join T F (G ++ x ∷ B) (IsSortedIn-grow S T more F sorted_f) sorted_gxb (λ a b i j.
          elim (In-taken [] G B x b j) as (λ _. Before T a.id b.id) [
            | inl m ↦ Before-grow S T more a.id b.id (IsSortedIn-across S F (G ++ B) order.sorted a b i m)
            | inr e ↦ subst (λ (w : Insert). Before T a.id w.id) (sym e) (f_before a i)
          ]);
    }
