-- The elements of sound changes: they are a tree, the next counter is above them, and the operations of a change
-- that fits may come.
use Rattle.tp_document.proofs.Common.{◌≡◌, ℕ, ◌+◌, ◌≤◌, ◌==◌, inl, inr, List, [], ◌∷◌, ◌++◌, length, Bool, true, false, Option, Some, None, refl, sym, ap, ◌∙◌, subst, arith, append_assoc, length-append, nat_tests, In, Actor, OpId, Insert, same_actor, id_eq, Op, ChangeParts, id_of, ops_of, inserts_in, inserts, deletes_in, deletes, next_counter, IsInOrder, In-append, Numbered-ops_of, Numbered, length-ops_of, inserts-In, past, defect, or_full, most_changes, Sound, truth, past-In, inserts_tree, DocumentInvariant, id_eq-same, IsChange, In-left, inserts-push, deletes-push, In-inserts, inserts-more, next_counter-above, Fits, Sound-push, own_past, Fits-from_cause, same_actor-apart, element, sound-induct, IsThere, IsThere-grow}
use Rattle.tp_change.specs.declared.op.Op.TheVariants as op_of
use Rattle.tp_edit.specs.Applying.{CanApply, Extends}
use Rattle.tp_edit.proofs.Applied.{CanApply-same}
use Rattle.tp_edit.proofs.Numbered.{IsFresh, IsFresh-under, CanApply-refers, IsAboveAll-ops, IsAboveAll-up}
use Rattle.tp_history.specs.declared.error.GraphError.{GraphError}
use Rattle.tp_history.specs.Fit.{cause}
use Rattle.tp_opid.specs.Tree.{IsAboveAll}

-- ---- the next counter

-- the next counter is above all elements
pub IsAboveAll-inserts : (C : List ChangeParts) (a : Actor) → IsAboveAll (inserts C) (id_of a (next_counter C))
IsAboveAll-inserts C a e i =
    let w = inserts-In C e i in
    let c = w.0 in
    let under : IsAboveAll (inserts_in (ops_of c)) (id_of a (c.start + length (ops_of c))) = IsAboveAll-ops (ops_of c) c.actor a c.start (Numbered-ops_of c) in
    let le : c.start + length (ops_of c) ≤ next_counter C = subst (λ n. c.start + n ≤ next_counter C) (sym (length-ops_of c)) (next_counter-above C c w.1) in
    IsAboveAll-up (inserts_in (ops_of c)) a (c.start + length (ops_of c)) (next_counter C) le under e w.2

-- the elements of an actor's operations have its identifiers
pub actor_of : (ops : List Op) (a : Actor) (n : ℕ) (e : Insert) → Numbered a n ops → In e (inserts_in ops) → e.id.actor ≡ a
actor_of [] a n e h i = absurd i
actor_of (op_of.Insert id after ch ∷ ops) a n e h (inl same) = ap (λ (x : Insert). x.id.actor) same ∙ ap (λ (x : OpId). x.actor) h.0
actor_of (op_of.Insert id after ch ∷ ops) a n e h (inr i) = actor_of ops a (n + 1) e h.1 i
actor_of (op_of.Delete id target ∷ ops) a n e h i = actor_of ops a (n + 1) e h.1 i

not_id : (x y : OpId) → (x.actor ≡ y.actor → ⊥) → id_eq x y ≡ false
not_id x y h = elim (id_eq x y) as (λ b. id_eq x y ≡ b → b ≡ false) [ true ↦ λ e. absurd (h (ap (λ (z : OpId). z.actor) (id_eq-same x y e))) | false ↦ λ e. refl ] refl

-- no element has an identifier of a change that fits
fresh : (C : List ChangeParts) (c : ChangeParts) → Sound C → Fits C c → IsFresh (inserts C) c.actor c.start
fresh C c s f e i k le =
    let w = inserts-In C e i in
    let d = w.0 in
    let P = past C c.deps in
    elim (truth (same_actor d.actor c.actor)) [
      | inl mine ↦
          let under : IsAboveAll (inserts P) (id_of c.actor c.start) = subst (λ n. IsAboveAll (inserts P) (id_of c.actor n)) (sym f.start) (IsAboveAll-inserts P c.actor) in
          IsFresh-under (inserts P) c.actor c.start under e (In-inserts P d e (own_past C c d s f w.1 mine) w.2) k le
      | inr other ↦
          let who : e.id.actor ≡ d.actor = actor_of (ops_of d) d.actor d.start e (Numbered-ops_of d) w.2 in
          not_id e.id (id_of c.actor k) (λ same. same_actor-apart d.actor c.actor other (sym who ∙ same))
    ]

-- the operations of a change that fits may come where the elements are there
pub CanApply-fits : (C : List ChangeParts) (c : ChangeParts) → Sound C → Fits C c → CanApply (inserts C) (ops_of c)
CanApply-fits C c s f =
    let P = past C c.deps in
    let under : IsAboveAll (inserts P) (id_of c.actor c.start) = subst (λ n. IsAboveAll (inserts P) (id_of c.actor n)) (sym f.start) (IsAboveAll-inserts P c.actor) in
    CanApply-refers (ops_of c) (inserts P) (inserts C) c.actor c.start (Numbered-ops_of c) (inserts-more P C (past-In C c.deps)) under (fresh C c s f) f.refs

-- ---- targets

targets_in : (S : List Insert) (ops : List Op) (r : OpId × OpId) → CanApply S ops → In r (deletes_in ops) → IsThere (S ++ inserts_in ops) r.0
targets_in S [] r h i = absurd i
targets_in S (op_of.Insert id after ch ∷ ops) r h i =
    subst (λ l. IsThere l r.0) (append_assoc S (element id after ch ∷ []) (inserts_in ops)) (targets_in (S ++ element id after ch ∷ []) ops r h.1 i)
targets_in S (op_of.Delete id target ∷ ops) r h (inl e) =
    subst (λ (x : OpId × OpId). IsThere (S ++ inserts_in ops) x.0) (sym e) (IsThere-grow S (S ++ inserts_in ops) (λ x j. In-left x S (inserts_in ops) j) target h.0)
targets_in S (op_of.Delete id target ∷ ops) r h (inr i) = targets_in S ops r h.1 i

-- each delete names an element
abbrev pub HasTargets : List ChangeParts → Type 0
HasTargets C = (r : OpId × OpId) → In r (deletes C) → IsThere (inserts C) r.0

targets_step : (C : List ChangeParts) (c : ChangeParts) → Sound C → HasTargets C → Fits C c → HasTargets (C ++ c ∷ [])
targets_step C c s t f r i =
    let whole = inserts C ++ inserts_in (ops_of c) in
    subst (λ l. IsThere l r.0) (sym (inserts-push C c))
    (elim (In-append r (deletes C) (deletes_in (ops_of c)) (subst (λ l. In r l) (deletes-push C c) i)) [
      | inl old ↦ IsThere-grow (inserts C) whole (λ x j. In-left x (inserts C) (inserts_in (ops_of c)) j) r.0 (t r old)
      | inr new ↦ targets_in (inserts C) (ops_of c) r (CanApply-fits C c s f) new
    ])

pub targets_there : (C : List ChangeParts) → Sound C → HasTargets C
targets_there = sound-induct HasTargets (λ r i. absurd i) targets_step

-- ---- a document and one change more

-- the operations of a change that can enter may come
pub DocumentInvariant-applies : (C : List ChangeParts) (L : List Insert) (R : List (OpId × OpId)) (c : ChangeParts) → DocumentInvariant C L R → cause C c ≡ None → CanApply L (ops_of c)
DocumentInvariant-applies C L R c h none = CanApply-same (inserts C) L h.order.same (ops_of c) (CanApply-fits C c h.sound (Fits-from_cause C c none))

few_more : (C : List ChangeParts) (c : ChangeParts) → length C ≤ most_changes → cause C c ≡ None → length (C ++ c ∷ []) ≤ most_changes
unfolding cause
few_more C c few none =
    let apart : (length C == most_changes) ≡ false = not_full (defect C c) (length C == most_changes) none in
    let more = length-append C (c ∷ []) in
    fewer (length C) (length (C ++ c ∷ [])) few apart more where
      not_full : (o : Option GraphError) (b : Bool) → or_full o b ≡ None → b ≡ false
      not_full (Some e) b h = cc
      not_full None true h = cc
      not_full None false h = refl

      fewer : (n m : ℕ) → n ≤ most_changes → (n == most_changes) ≡ false → m ≡ n + 1 → m ≤ most_changes
      fewer n m few apart more = grind (arith, nat_tests)

-- and once they are in, the document holds the change too
pub DocumentInvariant-push : (C : List ChangeParts) (L M : List Insert) (R Q : List (OpId × OpId)) (c : ChangeParts)
    → DocumentInvariant C L R → cause C c ≡ None → IsChange c → Extends L M (ops_of c) → Q ≡ R ++ deletes_in (ops_of c) → DocumentInvariant (C ++ c ∷ []) M Q
DocumentInvariant-push C L M R Q c h none limits grown more =
    let f = Fits-from_cause C c none in
    let placed = grown.order (inserts C) (inserts_tree C h.sound) h.order in
    record {
      sound = Sound-push C c h.sound f;
      limits = λ d i. elim (In-append d C (c ∷ []) i) [
        | inl old ↦ h.limits d old
        | inr (inl same) ↦ subst IsChange (sym same) limits
        | inr (inr none) ↦ absurd none
      ];
      few = few_more C c h.few none;
      order = subst (λ l. IsInOrder l M) (sym (inserts-push C c)) placed.1;
      deletes = more ∙ ap (λ l. l ++ deletes_in (ops_of c)) h.deletes ∙ sym (deletes-push C c);
    }
