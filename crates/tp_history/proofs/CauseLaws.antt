-- When the first two faults come, and what can enter.
use Rattle.tp_history.proofs.Common.{Option, ◌≡◌, List, true, false, Some, refl, ◌+◌, ◌==◌, ◌↔◌, Bool, cond, None, ChangeParts, hash_of, GraphError, Known, MissingDeps, BadSeq, BadStart, BadReference, has, has_all, past, or_clash, clashes, count_by, ops_of, inserts, refers, next_counter, ◌<◌, ◌≤◌, length, ap, ◌∙◌, arith, nat_tests, defect, or_full, most_changes, Fits}
use Rattle.tp_history.specs.Fit.{defect, defect_after, cause}
use Rattle.tp_history.proofs.SoundLaws.{Fits-from_defect, defect-from_Fits}

-- ---- when the first two faults come

-- none of the later faults is one of the first two
later_fault : (q s t b : Bool) (e : GraphError) → or_clash (cond q (cond s (cond t None (Some BadReference)) (Some BadStart)) (Some BadSeq)) b ≡ Some e → (e ≡ Known → ⊥) × (e ≡ MissingDeps → ⊥)
later_fault false s t b e h = (λ k. cc, λ k. cc)
later_fault true false t b e h = (λ k. cc, λ k. cc)
later_fault true true false b e h = (λ k. cc, λ k. cc)
later_fault true true true true e h = (λ k. cc, λ k. cc)
later_fault true true true false e h = cc

pub known_is : (C : List ChangeParts) (c : ChangeParts) → (defect C c ≡ Some Known) ↔ (has C (hash_of c) ≡ true)
unfolding defect defect_after
known_is C c = (
  split (has C (hash_of c)) (has_all C c.deps),
  λ t. rw t refl,
) where
  split : (h a : Bool) → cond h (Some Known) (cond a (or_clash (defect_after (past C c.deps) c) (clashes C c)) (Some MissingDeps)) ≡ Some Known → h ≡ true
  split true a e = refl
  split false false e = cc
  split false true e =
      absurd ((later_fault (c.seq == count_by c.actor (past C c.deps) + 1) (c.start == next_counter (past C c.deps)) (refers (inserts (past C c.deps)) (ops_of c)) (clashes C c) Known e).0 refl)

pub missing_deps_is : (C : List ChangeParts) (c : ChangeParts) → (defect C c ≡ Some MissingDeps) ↔ ((has C (hash_of c) ≡ false) × (has_all C c.deps ≡ false))
unfolding defect defect_after
missing_deps_is C c = (
  split (has C (hash_of c)) (has_all C c.deps),
  λ w. rw (w.0, w.1) refl,
) where
  split : (h a : Bool) → cond h (Some Known) (cond a (or_clash (defect_after (past C c.deps) c) (clashes C c)) (Some MissingDeps)) ≡ Some MissingDeps → (h ≡ false) × (a ≡ false)
  split true a e = cc
  split false false e = (refl, refl)
  split false true e =
      absurd ((later_fault (c.seq == count_by c.actor (past C c.deps) + 1) (c.start == next_counter (past C c.deps)) (refers (inserts (past C c.deps)) (ops_of c)) (clashes C c) MissingDeps e).1 refl)

-- ---- what can enter

no_cause : (o : Option GraphError) (b : Bool) → or_full o b ≡ None → (o ≡ None) × (b ≡ false)
no_cause (Some e) b h = cc
no_cause None true h = cc
no_cause None false h = (refl, refl)

-- a change that can enter has no defect, and the list isn't full
pub enters : (C : List ChangeParts) (c : ChangeParts) → cause C c ≡ None → (defect C c ≡ None) × ((length C == most_changes) ≡ false)
unfolding cause
enters C c h = no_cause (defect C c) (length C == most_changes) h

pub Fits-from_cause : (C : List ChangeParts) (c : ChangeParts) → cause C c ≡ None → Fits C c
Fits-from_cause C c h = Fits-from_defect C c (enters C c h).0

-- where a change can enter there are fewer changes than a graph has at most
pub room_for_one : (C : List ChangeParts) (c : ChangeParts) → cause C c ≡ None → length C ≤ most_changes → length C < most_changes
room_for_one C c none few = let one = (enters C c none).1 in grind (arith, nat_tests)

-- a change that fits can enter where the list isn't full
pub cause-from_Fits : (C : List ChangeParts) (c : ChangeParts) → Fits C c → length C < most_changes → cause C c ≡ None
unfolding cause
cause-from_Fits C c f small =
    let room : (length C == most_changes) ≡ false = grind (arith, nat_tests) in
    ap (λ o. or_full o (length C == most_changes)) (defect-from_Fits C c f) ∙ ap (or_full None) room
