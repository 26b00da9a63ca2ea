-- Lists in the order of a set: their parts, the same set in another order, and that there is one list.
use Rattle.std.proofs.Common.{◌≡◌, inl, inr, List, [], ◌∷◌, ◌++◌, refl, sym, ◌∙◌, subst}
use Rattle.tp_list.specs.Members.{In, AllIn, SameMembers}
use Rattle.tp_list.proofs.Members.{In-left, In-right, In-append}
use Rattle.tp_opid.specs.Insert.{Insert}
use Rattle.tp_opid.specs.Tree.{IsTree}
use Rattle.tp_rga.specs.Order.{Before, IsSortedIn}
use Rattle.tp_rga.proofs.Trees.{Before-grow, Before-irreflexive, Before-asym}

-- a sorted list stays sorted as the set grows
pub IsSortedIn-grow : (S T : List Insert) → AllIn S T → (L : List Insert) → IsSortedIn S L → IsSortedIn T L
IsSortedIn-grow S T more [] h = tt
IsSortedIn-grow S T more (a ∷ L) h = (λ b i. Before-grow S T more a.id b.id (h.0 b i), IsSortedIn-grow S T more L h.1)

-- ---- parts

-- a prefix of a sorted list
pub IsSortedIn-prefix : (S F B : List Insert) → IsSortedIn S (F ++ B) → IsSortedIn S F
IsSortedIn-prefix S [] B h = tt
IsSortedIn-prefix S (a ∷ F) B h = (λ b i. h.0 b (In-left b F B i), IsSortedIn-prefix S F B h.1)

-- the rest of a sorted list
pub IsSortedIn-back : (S F B : List Insert) → IsSortedIn S (F ++ B) → IsSortedIn S B
IsSortedIn-back S [] B h = h
IsSortedIn-back S (a ∷ F) B h = IsSortedIn-back S F B h.1

-- what is in the prefix is before what is after it
pub IsSortedIn-across : (S F B : List Insert) → IsSortedIn S (F ++ B) → (a b : Insert) → In a F → In b B → Before S a.id b.id
IsSortedIn-across S [] B h a b i j = absurd i
IsSortedIn-across S (c ∷ F) B h a b (inl i) j = subst (λ (w : Insert). Before S w.id b.id) (sym i) (h.0 b (In-right b F B j))
IsSortedIn-across S (c ∷ F) B h a b (inr i) j = IsSortedIn-across S F B h.1 a b i j

-- two sorted lists, each element of the first before each of the second
pub IsSortedIn-join : (S F B : List Insert) → IsSortedIn S F → IsSortedIn S B → ((a b : Insert) → In a F → In b B → Before S a.id b.id) → IsSortedIn S (F ++ B)
IsSortedIn-join S [] B h k across = k
IsSortedIn-join S (c ∷ F) B h k across = (
  λ b i. elim (In-append b F B i) as (λ _. Before S c.id b.id) [ inl j ↦ h.0 b j | inr j ↦ across c b (inl refl) j ],
  IsSortedIn-join S F B h.1 k (λ a b i j. across a b (inr i) j),
)

-- ---- one list for one set

-- two sorted lists with the same members are one
pub sorted_once : (S : List Insert) → IsTree S → (L M : List Insert) → IsSortedIn S L → IsSortedIn S M → SameMembers L M → L ≡ M
sorted_once S tree [] [] h k same = refl
sorted_once S tree [] (y ∷ M) h k same = absurd (same.back y (inl refl))
sorted_once S tree (x ∷ L) [] h k same = absurd (same.there x (inl refl))
sorted_once S tree (x ∷ L) (y ∷ M) h k same =
    let first : x ≡ y =
    elim (same.there x (inl refl)) as (λ _. x ≡ y) [
      | inl e ↦ e
      | inr i ↦ elim (same.back y (inl refl)) as (λ _. x ≡ y) [
        | inl e ↦ sym e
        | inr j ↦ absurd (Before-asym S tree x.id y.id (h.0 y j) (k.0 x i))
      ]
    ] in
    let rest : SameMembers L M = record {
      there = λ z i. elim (same.there z (inr i)) as (λ _. In z M) [
        | inl e ↦ absurd (Before-irreflexive S tree x.id (subst (λ (w : Insert). Before S x.id w.id) (e ∙ sym first) (h.0 z i)))
        | inr j ↦ j
      ];
      back = λ z i. elim (same.back z (inr i)) as (λ _. In z L) [
        | inl e ↦ absurd (Before-irreflexive S tree y.id (subst (λ (w : Insert). Before S y.id w.id) (e ∙ first) (k.0 z i)))
        | inr j ↦ j
      ];
    } in
    let tail : L ≡ M = sorted_once S tree L M h.1 k.1 rest in
    cc
