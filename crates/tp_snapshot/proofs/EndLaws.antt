-- An actor's changes in a past are those below one counter.
use Rattle.tp_snapshot.proofs.Common.{◌≡◌, ◌+◌, ◌<◌, ◌≤◌, ◌⊎◌, inl, inr, List, ◌∷◌, ◌++◌, true, refl, sym, ap, ◌∙◌, subst, arith, append_assoc, In, Hash, OpId, same_actor, ChangeParts, op_count, In-append, past, Sound, past-In, deps_first, Fits-at, end_of, AllIn, IsOwnId, In-right, Sound-before, own_past, next_counter-above, same_actor-flip, In-split, past-closed, Sound-prefix}
use Rattle.tp_history.proofs.ReachLaws.{InPast-from_past, chain_stays}
use Rattle.tp_ancestry.proofs.ClockLaws.{end_of-above, end_of-found}

-- ---- an actor's changes come one after another

-- The change c is in the past of d, and its counters are below those of d.
pub record IsBefore (C : List ChangeParts) (c d : ChangeParts) : Type 0 where
  pub there : In c (past C d.deps)
  pub below : c.start + op_count c ≤ d.start

before_in_prefix : (A : List ChangeParts) (c d : ChangeParts) (B : List ChangeParts) → Sound (A ++ d ∷ B) → In c A → same_actor c.actor d.actor ≡ true → IsBefore (A ++ d ∷ B) c d
before_in_prefix A c d B s i e =
    let f = Fits-at A d B s in
    let own : In c (past A d.deps) = own_past A d c (Sound-prefix A (d ∷ B) s) f i e in
    record {
      there = subst (λ P. In c P) (sym (Sound-before A (d ∷ B) d.deps f.deps s)) own;
      below = subst (λ n. c.start + op_count c ≤ n) (sym f.start) (next_counter-above (past A d.deps) c own);
    }

-- of two changes of one actor one is before the other
pub one_before_other : (C : List ChangeParts) (c d : ChangeParts) → Sound C → In c C → In d C → same_actor c.actor d.actor ≡ true → (c ≡ d) ⊎ (IsBefore C c d ⊎ IsBefore C d c)
one_before_other C c d s i j e =
    let w = In-split d C j in
    let A = w.0 in
    let B = w.1 in
    elim (In-append c A (d ∷ B) (subst (λ l. In c l) w.2 i)) [
      | inl prefix ↦ inr (inl (subst (λ l. IsBefore l c d) (sym w.2) (before_in_prefix A c d B (subst Sound w.2 s) prefix e)))
      | inr (inl same) ↦ inl same
      | inr (inr back) ↦
          let v = In-split c B back in
          let parts : C ≡ (A ++ d ∷ v.0) ++ c ∷ v.1 = w.2 ∙ ap (λ l. A ++ d ∷ l) v.2 ∙ sym (append_assoc A (d ∷ v.0) (c ∷ v.1)) in
          inr (inr (subst (λ l. IsBefore l d c) (sym parts) (before_in_prefix (A ++ d ∷ v.0) d c v.1 (subst Sound parts s) (In-right d A (d ∷ v.0) (inl refl)) (same_actor-flip c.actor d.actor e))))
    ]

-- ---- a past has the pasts of its changes

pub past-of_deps : (C : List ChangeParts) (H : List Hash) (c : ChangeParts) → Sound C → In c (past C H) → AllIn (past C c.deps) (past C H)
past-of_deps C H c s i d j =
    let o = deps_first C s in
    let p = InPast-from_past C c.deps d j in
    chain_stays C H o p.3.0 p.1 d (λ x k e. past-closed C H o x c i k (subst (λ g. In g c.deps) (sym e) p.2)) p.3.1 p.0

-- ---- an operation is in a past exactly where it is below its actor's end there

pub below_end : (C : List ChangeParts) (c : ChangeParts) (id : OpId) → In c C → IsOwnId c id → id.counter < end_of C id.actor
below_end C c id i own =
    let to : id.counter < c.start + op_count c = own.to in
    let above : c.start + op_count c ≤ end_of C c.actor = end_of-above C c i in
    let lt : id.counter < end_of C c.actor = omega arith in
    subst (λ a. id.counter < end_of C a) (sym own.actor) lt

pub in_past : (C : List ChangeParts) (H : List Hash) (d : ChangeParts) (id : OpId) → Sound C → In d C → IsOwnId d id → id.counter < end_of (past C H) id.actor → In d (past C H)
in_past C H d id s i own lt =
    let w = end_of-found (past C H) id.actor id.counter lt in
    let c = w.0 in
    let to : id.counter < c.start + op_count c = w.3 in
    let from : d.start ≤ id.counter = own.from in
    let one : same_actor c.actor d.actor ≡ true = subst (λ a. same_actor c.actor a ≡ true) own.actor w.2 in
    elim (one_before_other C c d s (past-In C H c w.1) i one) [
      | inl same ↦ subst (λ x. In x (past C H)) same w.1
      | inr (inl before) ↦ let below : c.start + op_count c ≤ d.start = before.below in absurd (omega arith)
      | inr (inr after) ↦ past-of_deps C H c s w.1 d after.there
    ]
