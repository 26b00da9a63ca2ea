-- Histories: prefixes, one change more, and what is next.
use Rattle.std.proofs.Common.{◌≡◌, ◌+◌, ◌==◌, inl, inr, List, [], ◌∷◌, ◌++◌, length, get_or, true, false, Bool, Option, Some, None, refl, sym, ap, ◌∙◌, subst, arith}
use Rattle.std.proofs.lemmas.Bool.{eqb-false}
use Rattle.std.proofs.lemmas.List.{take_at, length-append, get_or-append-add}
use Rattle.tp_list.proofs.Members.{In-left, In-push, In-middle}
use Rattle.tp_layout.specs.declared.parts.ChangeParts.{ChangeParts}
use Rattle.tp_layout.specs.Limits.{IsChange}
use Rattle.tp_document.proofs.EditFits.{prefix_enters}
use Rattle.tp_history.specs.declared.error.GraphError.{GraphError}
use Rattle.tp_history.specs.Fit.{defect, or_full, cause, most_changes}
use Rattle.tp_history.proofs.SoundLaws.{Sound-prefix, Sound-push, Fits-from_defect}
use Rattle.tp_recovery.specs.Recovery.{IsHistory}

pub history_none : IsHistory []
history_none = record { sound = tt; limits = λ c i. absurd i; few = omega arith }

-- a prefix of a history is one
pub history_prefix : (C D : List ChangeParts) → IsHistory (C ++ D) → IsHistory C
history_prefix C D h = record {
  sound = Sound-prefix C D h.sound;
  limits = λ c i. h.limits c (In-left c C D i);
  few = let parts = length-append C D in let few = h.few in omega arith;
}

-- each change of a history can enter after those before it
pub history_at : (A : List ChangeParts) (x : ChangeParts) (B : List ChangeParts) → IsHistory (A ++ x ∷ B) → cause A x ≡ None
history_at A x B h =
    let parts = length-append A (x ∷ B) in
    let there : x ≡ get_or (A ++ x ∷ B) (length A) x = sym (ap (λ n. get_or (A ++ x ∷ B) n x) (let z : length A ≡ length A + 0 = omega arith in z) ∙ get_or-append-add A (x ∷ B) 0 x) in
    subst (λ l. cause l x ≡ None) (take_at A (x ∷ B) (length A) refl)
    (prefix_enters (A ++ x ∷ B) (length A) x h.sound h.few (omega arith) there)

-- each change of a history is within the limits
pub history_limits : (A : List ChangeParts) (x : ChangeParts) (B : List ChangeParts) → IsHistory (A ++ x ∷ B) → IsChange x
history_limits A x B h = h.limits x (In-middle A x B)

not_full : (o : Option GraphError) (full : Bool) → or_full o full ≡ None → (o ≡ None) × (full ≡ false)
not_full (Some e) full h = absurd cc
not_full None true h = absurd cc
not_full None false h = (refl, refl)

-- a change that can enter makes a longer history
pub history_push : (C : List ChangeParts) (c : ChangeParts) → IsHistory C → IsChange c → cause C c ≡ None → IsHistory (C ++ c ∷ [])
unfolding cause
history_push C c h is free =
    let parts = not_full (defect C c) (length C == most_changes) free in
    let room = eqb-false (length C) most_changes parts.1 in
    let longer = length-append C (c ∷ []) in
    let few = h.few in
    record {
      sound = Sound-push C c h.sound (Fits-from_defect C c parts.0);
      limits = λ d i. elim (In-push d C c i) [ inl there ↦ h.limits d there | inr last ↦ subst IsChange (sym last) is ];
      few = omega arith;
    }
