-- The one list of all elements, and each text that was read as a part of it.
use Rattle.tp_headline.proofs.Common.{◌≡◌, inl, inr, ℕ, List, [], ◌∷◌, ◌++◌, filter, refl, sym, ap, ◌∙◌, subst, append_assoc, append-nil, In, SameMembers, In-push, In-filter, filter-In, Hash, id_eq, id_eq-flip, ChangeParts, IsTextOf, chars_of, text_of_a_set, past, Sound, past-In, past-more, sound-induct, sound_pasts, Act, ActSteps, Coherent, Lists, no_lists}
use Rattle.tp_opid.specs.Insert.{Insert}
use Rattle.tp_opid.specs.Tree.{IdsApart, IsNew}
use Rattle.tp_opid.proofs.Trees.{IsTree-same}
use Rattle.tp_change.specs.declared.op.Op.{Op}
use Rattle.tp_change.specs.declared.op.Op.TheVariants as op_of
use Rattle.tp_change.specs.Operations.{ops_of}
use Rattle.tp_change.specs.Elements.{element, inserts, inserts_in, deletes, is_inserted}
use Rattle.tp_change.proofs.ElementLaws.{inserts-more, inserts-push, is_inserted-In, is_inserted-member}
use Rattle.tp_rga.specs.Order.{IsInOrder}
use Rattle.tp_rga.specs.Shown.{visible_of}
use Rattle.tp_rga.proofs.OneOrder.{one_order, order_exists, order_of_part, order_of_set, present_once}
use Rattle.tp_edit.specs.Applying.{CanApply}
use Rattle.tp_snapshot.proofs.ShowingLaws.{one_text}
use Rattle.tp_document.proofs.SoundText.{CanApply-fits}
use Rattle.tp_history.proofs.TreeLaws.{inserts_tree}
use Rattle.tp_headline.specs.Headline.{Agrees, Headline, inserted_by}
use Rattle.tp_headline.proofs.ActLaws.{no_lists_coherent, steps_cohere}

-- ---- different identifiers

apart_push : (S : List Insert) (x : Insert) → IdsApart S → IsNew S x.id → IdsApart (S ++ x ∷ [])
apart_push [] x apart new = ((λ e i. absurd i), tt)
apart_push (e ∷ S) x apart new = (
  (λ f i. elim (In-push f S x i) [
    | inl old ↦ apart.0 f old
    | inr is ↦ ap (λ (y : Insert). id_eq y.id e.id) is ∙ id_eq-flip e.id x.id (new e (inl refl))
  ]),
  apart_push S x apart.1 (λ f i. new f (inr i)),
)

-- operations that may come one after another insert elements with different identifiers
apart_applied : (S : List Insert) (ops : List Op) → IdsApart S → CanApply S ops → IdsApart (S ++ inserts_in ops)
apart_applied S [] apart can = subst IdsApart (sym (append-nil S)) apart
apart_applied S (op_of.Insert id after ch ∷ ops) apart can =
    let x = element id after ch in
    subst IdsApart (append_assoc S (x ∷ []) (inserts_in ops)) (apart_applied (S ++ x ∷ []) ops (apart_push S x apart can.0.new) can.1)
apart_applied S (op_of.Delete id target ∷ ops) apart can = apart_applied S ops apart can.1

-- no two inserts of a sound list share an identifier
pub inserts_apart : (C : List ChangeParts) → Sound C → IdsApart (inserts C)
inserts_apart = sound-induct (λ C. IdsApart (inserts C)) tt (λ C c s apart f.
    subst IdsApart (sym (inserts-push C c)) (apart_applied (inserts C) (ops_of c) apart (CanApply-fits C c s f)))

-- ---- a part of the list

-- the inserts of a past are those of the whole with an identifier of the past
inserts_of_past : (C : List ChangeParts) (H : List Hash) → Sound C → SameMembers (filter (λ (e : Insert). is_inserted (inserts (past C H)) e.id) (inserts C)) (inserts (past C H))
inserts_of_past C H sound =
    let P = past C H in
    let keep = λ (e : Insert). is_inserted (inserts P) e.id in
    let more = inserts-more P C (past-In C H) in
    record {
      there = λ x i.
          let f = In-filter keep (inserts C) x i in
          let y = is_inserted-In (inserts P) x.id f.1 in
          subst (λ z. In z (inserts P)) ((inserts_tree C sound).once y.0 x (more y.0 y.1) f.0 y.2) y.1;
      back = λ x i. filter-In keep (inserts C) x (more x i) (is_inserted-member (inserts P) x i);
    }

-- the list in order for the whole, kept to a past, is in order for the past
pub order_of_past : (C : List ChangeParts) (H : List Hash) (L : List Insert) → Sound C → IsInOrder (inserts C) L → IsInOrder (inserts (past C H)) (inserted_by (past C H) L)
order_of_past C H L sound order =
    let P = past C H in
    let keep = λ (e : Insert). is_inserted (inserts P) e.id in
    let same = inserts_of_past C H sound in
    let part = filter keep (inserts C) in
    let tree = IsTree-same (inserts P) part (record { there = same.back; back = same.there }) (inserts_tree P (sound_pasts C sound H)) in
    order_of_set part (inserts P) (filter keep L) same (order_of_part (inserts C) L keep (inserts_tree C sound) tree order)

-- the text of a past is the list kept to what the past inserts and doesn't delete
pub text_agrees : (C : List ChangeParts) (H : List Hash) (L : List Insert) (text : List ℕ) → Sound C → IsInOrder (inserts C) L → IsTextOf (past C H) text → Agrees L (past C H) text
text_agrees C H L text sound order is =
    let P = past C H in
    let same = one_order (inserts P) is.elements (inserted_by P L) (inserts_tree P (sound_pasts C sound H)) is.order (order_of_past C H L sound order) in
    is.spells ∙ ap (λ l. chars_of (visible_of (deletes P) l)) same

-- equal heads have one text
pub texts_alike : (C : List ChangeParts) (H K : List Hash) (s t : List ℕ) → Sound C → SameMembers H K → IsTextOf (past C H) s → IsTextOf (past C K) t → s ≡ t
texts_alike C H K s t sound same a b =
    let set : SameMembers (past C H) (past C K) = record { there = past-more C H K same.there; back = past-more C K H same.back } in
    one_text (past C K) s t (sound_pasts C sound K) ((text_of_a_set (past C H) (past C K) s set).0 a) b

-- ---- the headline

pub coherent_headline : (s : Lists) → Coherent s → Headline s
coherent_headline s h =
    let tree = inserts_tree s.made h.sound in
    let found = order_exists (inserts s.made) tree in
    record {
      apart = inserts_apart s.made h.sound;
      elements = found.0;
      order = found.1;
      once = present_once (inserts s.made) found.0 tree found.1;
      one_list = λ other order. one_order (inserts s.made) other found.0 tree order found.1;
      agree = λ r i. text_agrees s.made r.heads found.0 r.text h.sound found.1 (h.reads r i).text;
      alike = λ r q i j same. texts_alike s.made r.heads q.heads r.text q.text h.sound same (h.reads r i).text (h.reads q j).text;
    }

-- so it holds of each world that acts lead to
pub acts_headline : (acts : List Act) (s : Lists) → ActSteps no_lists acts s → Headline s
acts_headline acts s steps = coherent_headline s (steps_cohere no_lists acts s no_lists_coherent steps)
