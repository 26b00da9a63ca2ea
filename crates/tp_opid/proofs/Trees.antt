-- Trees as sets of inserts: the words on them depend on members alone.
use Rattle.std.proofs.Common.{◌≡◌, inl, inr, List, [], ◌∷◌, ◌++◌, sym, ap, ◌∙◌, subst}
use Rattle.tp_list.specs.Members.{In, AllIn, SameMembers}
use Rattle.tp_list.proofs.Members.{In-left, In-push}
use Rattle.tp_opid.specs.declared.op_id.OpId.{OpId}
use Rattle.tp_opid.specs.declared.op_id.Place.{Place}
use Rattle.tp_opid.specs.declared.op_id.Place.TheVariants.{Start, After}
use Rattle.tp_opid.specs.Insert.{Insert}
use Rattle.tp_opid.specs.Tree.{IsThere, IsReferenceBelow, IsTree, CanInsert}
use Rattle.tp_opid.proofs.Orders.{id_eq-apart}

-- what is there is there in a larger set
pub IsThere-grow : (S T : List Insert) → AllIn S T → (x : OpId) → IsThere S x → IsThere T x
IsThere-grow S T more x h = (h.0, (h.1.0, more _ h.1.1))

-- an element of the set is there
pub IsThere-member : (S : List Insert) (e : Insert) → In e S → IsThere S e.id
IsThere-member S e i = (e.after, (e.ch, i))

-- a place below an identifier is one in a larger set
pub IsReferenceBelow-grow : (S T : List Insert) → AllIn S T → (x : OpId) (p : Place) → IsReferenceBelow S x p → IsReferenceBelow T x p
IsReferenceBelow-grow S T more x Start h = tt
IsReferenceBelow-grow S T more x (After r) h = (IsThere-grow S T more r h.0, h.1)

-- what a set can take each list of it can
pub CanInsert-same : (S T : List Insert) → SameMembers S T → (x : OpId) (p : Place) → CanInsert S x p → CanInsert T x p
CanInsert-same S T same x p can = record {
  new = λ e i. can.new e (same.back e i);
  place = IsReferenceBelow-grow S T same.there x p can.place;
}

-- a list of the members of a tree is a tree
pub IsTree-same : (S T : List Insert) → SameMembers S T → IsTree S → IsTree T
IsTree-same S T same tree = record {
  once = λ a b i j e. tree.once a b (same.back a i) (same.back b j) e;
  placed = λ e i. IsReferenceBelow-grow S T same.there e.id e.after (tree.placed e (same.back e i));
}

-- a tree with an insert that it can take is a tree
pub IsTree-push : (S : List Insert) (x : Insert) → IsTree S → CanInsert S x.id x.after → IsTree (S ++ x ∷ [])
IsTree-push S x tree can = record {
  once = λ a b i j e. elim (In-push a S x i) as (λ _. a ≡ b) [
    | inl h ↦ elim (In-push b S x j) as (λ _. a ≡ b) [
      | inl k ↦ tree.once a b h k e
      | inr k ↦ absurd (id_eq-apart a.id x.id (can.new a h) (e ∙ ap (λ (w : Insert). w.id) k))
    ]
    | inr h ↦ elim (In-push b S x j) as (λ _. a ≡ b) [
      | inl k ↦ absurd (id_eq-apart b.id x.id (can.new b k) (sym e ∙ ap (λ (w : Insert). w.id) h))
      | inr k ↦ h ∙ sym k
    ]
  ];
  placed = λ e i. elim (In-push e S x i) as (λ _. IsReferenceBelow (S ++ x ∷ []) e.id e.after) [
    | inl h ↦ IsReferenceBelow-grow S (S ++ x ∷ []) (λ y k. In-left y S (x ∷ []) k) e.id e.after (tree.placed e h)
    | inr h ↦ subst (λ (w : Insert). IsReferenceBelow (S ++ x ∷ []) w.id w.after) (sym h) (IsReferenceBelow-grow S (S ++ x ∷ []) (λ y k. In-left y S (x ∷ []) k) x.id x.after can.place)
  ];
}
