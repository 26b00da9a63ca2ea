-- References that are looked up as the operations go in, one after another.
use Rattle.std.proofs.Common.{◌≡◌, ℕ, ◌+◌, ◌<◌, Bool, true, false, ◌&&◌, List, [], ◌∷◌, ◌++◌, inl, inr, refl, sym, ap, ◌∙◌, subst, append-nil, arith}
use Rattle.tp_list.specs.Members.{In, SameMembers}
use Rattle.tp_list.proofs.Members.{In-append, SameMembers-trans, SameMembers-last}
use Rattle.tp_opid.specs.declared.actor.Actor.{Actor}
use Rattle.tp_opid.specs.Insert.{Insert}
use Rattle.tp_opid.specs.Order.{Below}
use Rattle.tp_opid.proofs.Orders.{Below-trans, Below-counter}
use Rattle.tp_change.specs.declared.op.Op.{Op}
use Rattle.tp_change.specs.declared.op.Op.TheVariants as op_of
use Rattle.tp_change.specs.Operations.{id_of}
use Rattle.tp_change.specs.Elements.{element, is_inserted, is_reference, refers}
use Rattle.tp_change.proofs.Numbered.{Numbered}
use Rattle.tp_change.proofs.ElementLaws.{refers-same, SameIds-members}
use Rattle.tp_edit.specs.Applying.{CanApply, Extends}
use Rattle.tp_edit.proofs.Numbered.{CanApply-refers, IsFresh-under}
use Rattle.tp_opid.specs.Tree.{IsAboveAll}

and_true : (a b : Bool) → (a && true) ≡ true → (a && b) ≡ b
and_true true b h = refl
and_true false b h = cc

-- the first reference is there, and the operation goes in
pub refers-next : (S T : List Insert) (op : Op) (ops : List Op) → refers S (op ∷ []) ≡ true → Extends S T (op ∷ []) → refers S (op ∷ ops) ≡ refers T ops
refers-next S T (op_of.Insert id after ch) ops h e =
    and_true (is_reference S after) _ h
    ∙ refers-same (element id after ch ∷ S) T ops (SameIds-members (element id after ch ∷ S) T (SameMembers-trans (element id after ch ∷ S) (S ++ element id after ch ∷ []) T (SameMembers-last S (element id after ch)) e.members))
refers-next S T (op_of.Delete id target) ops h e =
    and_true (is_inserted S target) _ h ∙ refers-same S T ops (SameIds-members S T (subst (λ l. SameMembers l T) (append-nil S) e.members))

-- an operation whose reference is there may come
pub CanApply-next : (S : List Insert) (op : Op) (ops : List Op) (a : Actor) (n : ℕ) → Numbered a n (op ∷ ops) → IsAboveAll S (id_of a n) → refers S (op ∷ []) ≡ true → CanApply S (op ∷ [])
CanApply-next S (op_of.Insert id after ch) ops a n num under h =
    CanApply-refers (op_of.Insert id after ch ∷ []) S S a n (num.0, tt) (λ x there. there) under (IsFresh-under S a n under) h
CanApply-next S (op_of.Delete id target) ops a n num under h =
    CanApply-refers (op_of.Delete id target ∷ []) S S a n (num.0, tt) (λ x there. there) under (IsFresh-under S a n under) h

pub Numbered-rest : (op : Op) (ops : List Op) (a : Actor) (n : ℕ) → Numbered a n (op ∷ ops) → Numbered a (n + 1) ops
Numbered-rest (op_of.Insert id after ch) ops a n num = num.1
Numbered-rest (op_of.Delete id target) ops a n num = num.1

step_up : (a : Actor) (n : ℕ) → Below (id_of a n) (id_of a (n + 1))
step_up a n = Below-counter (id_of a n) (id_of a (n + 1)) (let lt : n < n + 1 = omega arith in lt)

-- and then the next identifier is above all again
pub IsAboveAll-next : (S T : List Insert) (op : Op) (ops : List Op) (a : Actor) (n : ℕ) → Numbered a n (op ∷ ops) → IsAboveAll S (id_of a n) → Extends S T (op ∷ []) → IsAboveAll T (id_of a (n + 1))
IsAboveAll-next S T (op_of.Insert id after ch) ops a n num under e x there = elim (In-append x S (element id after ch ∷ []) (e.members.back x there)) [
  | inl old ↦ Below-trans x.id (id_of a n) (id_of a (n + 1)) (under x old) (step_up a n)
  | inr (inl new) ↦ subst (λ y. Below y (id_of a (n + 1))) (sym num.0 ∙ sym (ap (λ (z : Insert). z.id) new)) (step_up a n)
  | inr (inr none) ↦ absurd none
]
IsAboveAll-next S T (op_of.Delete id target) ops a n num under e x there =
    Below-trans x.id (id_of a n) (id_of a (n + 1)) (under x (subst (λ l. In x l) (append-nil S) (e.members.back x there))) (step_up a n)
