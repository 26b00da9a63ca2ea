-- What operations leave, one after another.
use Rattle.std.proofs.Common.{◌≡◌, ℕ, List, [], ◌∷◌, ◌++◌, sym, ap, ◌∙◌, subst, append_assoc, append-nil}
use Rattle.tp_list.specs.Members.{SameMembers}
use Rattle.tp_list.proofs.Members.{SameMembers-sym, SameMembers-refl, SameMembers-trans, SameMembers-append, SameMembers-insert}
use Rattle.tp_opid.specs.declared.op_id.OpId.{OpId}
use Rattle.tp_opid.specs.declared.op_id.Place.{Place}
use Rattle.tp_opid.specs.Insert.{Insert}
use Rattle.tp_opid.specs.Tree.{IsTree, CanInsert}
use Rattle.tp_opid.proofs.Trees.{IsThere-grow, CanInsert-same, IsTree-push}
use Rattle.tp_change.specs.declared.op.Op.{Op}
use Rattle.tp_change.specs.declared.op.Op.TheVariants as op_of
use Rattle.tp_change.specs.Elements.{element, inserts_in}
use Rattle.tp_change.proofs.ElementLaws.{inserts_in-append}
use Rattle.tp_rga.specs.Order.{IsInOrder, IsInserted}
use Rattle.tp_edit.specs.Applying.{CanApply, Extends}

-- what may come depends on the elements as a set
pub CanApply-same : (S T : List Insert) → SameMembers S T → (ops : List Op) → CanApply S ops → CanApply T ops
CanApply-same S T same [] h = tt
CanApply-same S T same (op_of.Insert id after ch ∷ ops) h =
    (CanInsert-same S T same id after h.0, CanApply-same (S ++ element id after ch ∷ []) (T ++ element id after ch ∷ []) (SameMembers-append S T (element id after ch ∷ []) same) ops h.1)
CanApply-same S T same (op_of.Delete id target ∷ ops) h = (IsThere-grow S T same.there target h.0, CanApply-same S T same ops h.1)

-- an insert that is in its place extends the list by it
pub Extends-insert : (old new : List Insert) (id : OpId) (after : Place) (ch : ℕ) → CanInsert old id after → IsInserted old new (element id after ch) → Extends old new (op_of.Insert id after ch ∷ [])
Extends-insert old new id after ch can put = record {
  members = subst (λ l. SameMembers (old ++ element id after ch ∷ []) l) (sym put.put.2) (SameMembers-insert old put.put.0 (element id after ch));
  order = λ T tree order. (IsTree-push T (element id after ch) tree (CanInsert-same old T (SameMembers-sym T old order.same) id after can), put.order T tree order);
}

-- a delete leaves the elements as they are
pub Extends-delete : (old new : List Insert) (id target : OpId) → new ≡ old → Extends old new (op_of.Delete id target ∷ [])
Extends-delete old new id target same = record {
  members = subst (λ l. SameMembers (old ++ []) l) (sym same) (subst (λ l. SameMembers l old) (sym (append-nil old)) (SameMembers-refl old));
  order = λ T tree order. subst (λ l. IsTree l × IsInOrder l new) (sym (append-nil T)) (tree, subst (IsInOrder T) (sym same) order);
}

pub Extends-none : (old : List Insert) → Extends old old []
Extends-none old = record {
  members = subst (λ l. SameMembers l old) (sym (append-nil old)) (SameMembers-refl old);
  order = λ T tree order. subst (λ l. IsTree l × IsInOrder l old) (sym (append-nil T)) (tree, order);
}

-- operations after operations
pub Extends-join : (old mid new : List Insert) (xs ys : List Op) → Extends old mid xs → Extends mid new ys → Extends old new (xs ++ ys)
Extends-join old mid new xs ys p q =
    let joined = inserts_in-append xs ys in record {
      members =
          subst (λ l. SameMembers l new) (append_assoc old (inserts_in xs) (inserts_in ys) ∙ ap (λ l. old ++ l) (sym joined))
          (SameMembers-trans ((old ++ inserts_in xs) ++ inserts_in ys) (mid ++ inserts_in ys) new (SameMembers-append (old ++ inserts_in xs) mid (inserts_in ys) p.members) q.members);
      order = λ T tree order.
          let first = p.order T tree order in
          let second = q.order (T ++ inserts_in xs) first.0 first.1 in
          subst (λ l. IsTree l × IsInOrder l new) (append_assoc T (inserts_in xs) (inserts_in ys) ∙ ap (λ l. T ++ l) (sym joined)) second;
    }

-- what may come after it, once it is in
pub CanApply-rest : (S T : List Insert) (op : Op) (ops : List Op) → CanApply S (op ∷ ops) → Extends S T (op ∷ []) → CanApply T ops
CanApply-rest S T (op_of.Insert id after ch) ops h e = CanApply-same (S ++ element id after ch ∷ []) T e.members ops h.1
CanApply-rest S T (op_of.Delete id target) ops h e = CanApply-same S T (subst (λ l. SameMembers l T) (append-nil S) e.members) ops h.1
