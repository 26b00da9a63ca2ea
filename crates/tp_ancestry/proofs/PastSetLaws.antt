-- Which changes a past has, by place and by number.
use Rattle.tp_ancestry.proofs.Common.{◌≡◌, ℕ, ◌+◌, ◌<◌, ◌≤◌, List, length, true, Some, get_or, sym, ap, ◌∙◌, subst, arith, ◌↔◌, slice_get, In, ChangeParts, Sound, In-slice_get, PastSet, bits, holds, past_changes, nat_lt, nat_tests, same_test, Actor, same_actor, same_actor-same, ArePlacesBy, count_by}
use Rattle.tp_history.proofs.CountLaws.{seqs_run, own_one}
use Rattle.tp_history.proofs.MarksLaws.{pick-In, pick-marked, marked-pick, hashes_once}

-- a past holds a place exactly where the change there is among those that it has
pub holds-past_changes : (past_set : PastSet) (C : List ChangeParts) (p : ℕ) (c : ChangeParts) → Sound C → slice_get C p ≡ Some c → (holds past_set C p ≡ true) ↔ In c (past_changes past_set C)
holds-past_changes past_set C p c s at = (pick-marked (bits past_set C) C p c at, marked-pick (bits past_set C) C p c (hashes_once C s) at)

pub past_changes-In : (past_set : PastSet) (C : List ChangeParts) (c : ChangeParts) → In c (past_changes past_set C) → In c C
past_changes-In past_set C c i = pick-In (bits past_set C) C c i

-- a past holds the place with a number exactly where it has more of the actor's changes
pub held_by_number : (past_set : PastSet) (C : List ChangeParts) (a : Actor) (ps : List ℕ) (k p : ℕ) → Sound C → Sound (past_changes past_set C) → ArePlacesBy C a ps → k < length ps → p ≡ get_or ps k 0
    → holds past_set C p ≡ nat_lt k (count_by a (past_changes past_set C))
held_by_number past_set C a ps k p s t o small e =
    let P : List ChangeParts = past_changes past_set C in
    let w = o.each k small in
    let number : w.0.seq ≡ k + 1 = w.3 in
    let who : w.0.actor ≡ a = same_actor-same w.0.actor a w.2 in
    let at : slice_get C p ≡ Some w.0 = ap (slice_get C) e ∙ w.1 in
    let has = holds-past_changes past_set C p w.0 s at in
    same_test (holds past_set C p) (nat_lt k (count_by a P))
    (λ h.
    let bound : w.0.seq ≤ count_by a P = subst (λ b. w.0.seq ≤ count_by b P) who ((seqs_run P t).bounded w.0 (has.0 h)) in
    grind (arith, nat_tests))
    (λ h.
    let low : 1 ≤ w.0.seq = omega arith in
    let high : w.0.seq ≤ count_by a P = grind (arith, nat_tests) in
    let v = (seqs_run P t).there a w.0.seq low high in
    let one : same_actor v.0.actor w.0.actor ≡ true = subst (λ x. same_actor v.0.actor x ≡ true) (sym who) v.2 in
    has.1 (subst (λ x. In x P) (own_one C v.0 w.0 s (past_changes-In past_set C v.0 v.1) (In-slice_get C p w.0 at) one v.3) v.1))
