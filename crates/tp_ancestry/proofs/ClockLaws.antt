-- Clocks of pasts.
use Rattle.tp_ancestry.proofs.Common.{◌≡◌, ◌⊎◌, ℕ, suc, zero, ◌+◌, ◌-◌, ◌<◌, ◌≤◌, inl, inr, List, [], ◌∷◌, length, take, get_or, Bool, true, false, cond, nat_lt, Option, Some, refl, sym, ap, ◌∙◌, subst, arith, cases_lt, nat_tests, take_more, slice_get, unwrap_or, In, AllIn, truth, In-push, Actor, same_actor, same_actor-same, same_actor-itself, ChangeParts, later, op_count, later-left, PastSet, ArePlacesBy, end_at, end_of, HasEnds, IsClockOf, count_by, past_changes, ends_of, Sound}
use Rattle.tp_history.proofs.PlacesLaws.{end_at as end_is}
use Rattle.tp_history.proofs.CountLaws.{count_by-le}
use Rattle.tp_history.proofs.MarksLaws.{hashes_once}
use Rattle.tp_ancestry.proofs.PastSetLaws.{holds-past_changes, past_changes-In, held_by_number}
use Rattle.tp_history.proofs.ActorChangesLaws.{own_there, ends_before, same_at}

-- ---- the end of an actor's changes

-- each change of the actor ends there at the latest
pub end_of-above : (C : List ChangeParts) (c : ChangeParts) → In c C → c.start + op_count c ≤ end_of C c.actor
end_of-above [] c i = absurd i
end_of-above (d ∷ C) c (inl e) =
    subst (λ (x : ChangeParts). x.start + op_count x ≤ end_of (d ∷ C) x.actor) (sym e)
    (subst (λ b. d.start + op_count d ≤ cond b (later (d.start + op_count d) (end_of C d.actor)) (end_of C d.actor)) (sym (same_actor-itself d.actor)) (later-left (d.start + op_count d) (end_of C d.actor)))
end_of-above (d ∷ C) c (inr i) = up (same_actor d.actor c.actor) (c.start + op_count c) (d.start + op_count d) (end_of C c.actor) (end_of-above C c i) where
  up : (b : Bool) (k m n : ℕ) → k ≤ n → k ≤ cond b (later m n) n
  up true k m n h = grind (arith, nat_tests)
  up false k m n h = h

-- what is below the end is below that of one of the actor's changes
pub end_of-found : (C : List ChangeParts) (a : Actor) (n : ℕ) → n < end_of C a → (c : ChangeParts) × In c C × (same_actor c.actor a ≡ true) × (n < c.start + op_count c)
end_of-found [] a n lt = absurd (omega arith)
end_of-found (d ∷ C) a n lt =
    elim (found (same_actor d.actor a) n (d.start + op_count d) (end_of C a) lt) [
      | inl here ↦ (d, inl refl, here.0, here.1)
      | inr there ↦ let w = end_of-found C a n there in (w.0, inr w.1, w.2, w.3)
    ] where
      found : (b : Bool) (n m k : ℕ) → n < cond b (later m k) k → ((b ≡ true) × (n < m)) ⊎ (n < k)
      found true n m k h = elim (truth (nat_lt m k)) [
        | inl t ↦ inr (grind (arith, nat_tests))
        | inr f ↦ inl (refl, grind (arith, nat_tests))
      ]
      found false n m k h = inr h

-- an actor without changes has none
pub end_of-none : (C : List ChangeParts) (a : Actor) → count_by a C ≡ 0 → 0 ≡ end_of C a
end_of-none [] a e = refl
end_of-none (c ∷ C) a e =
    elim (same_actor c.actor a) as (λ b. cond b (count_by a C + 1) (count_by a C) ≡ 0 → 0 ≡ cond b (later (c.start + op_count c) (end_of C a)) (end_of C a)) [
      | true ↦ λ f. absurd (omega arith)
      | false ↦ λ f. end_of-none C a f
    ] e

-- the last of the actor's changes in a past has a number among all of them
pub held_within : (past_set : PastSet) (C : List ChangeParts) (a : Actor) (ps : List ℕ) (held : ℕ) → Sound (past_changes past_set C) → ArePlacesBy C a ps → held ≡ count_by a (past_changes past_set C) → (held ≡ 0 → ⊥)
    → (held - 1 < length ps) × (held - 1 + 1 ≡ count_by a (past_changes past_set C))
held_within past_set C a ps zero t o is some = absurd (some refl)
held_within past_set C a ps (suc k) t o is some =
    let fewer : count_by a (past_changes past_set C) ≤ count_by a C = count_by-le a (past_changes past_set C) C (hashes_once (past_changes past_set C) t) (past_changes-In past_set C) in
    let all : length ps ≡ count_by a C = o.all in
    (omega arith, omega arith)

-- of the actor's changes in a past the last one ends the latest
pub end_of-last : (past_set : PastSet) (C : List ChangeParts) (a : Actor) (ps : List ℕ) (k p : ℕ) → Sound C → Sound (past_changes past_set C) → ArePlacesBy C a ps → k + 1 ≡ count_by a (past_changes past_set C) → k < length ps
    → p ≡ get_or ps k 0 → get_or (ends_of C) p 0 ≡ end_of (past_changes past_set C) a
end_of-last past_set C a ps k p s t o count small e =
    let P : List ChangeParts = past_changes past_set C in
    let w = o.each k small in
    let c : ChangeParts = w.0 in
    let at : slice_get C p ≡ Some c = ap (slice_get C) e ∙ w.1 in
    let within : nat_lt k (count_by a P) ≡ true = grind (arith, nat_tests) in
    let i : In c P = (holds-past_changes past_set C p c s at).0 (held_by_number past_set C a ps k p s t o small e ∙ within) in
    let above : c.start + op_count c ≤ end_of P a = subst (λ b. c.start + op_count c ≤ end_of P b) (same_actor-same c.actor a w.2) (end_of-above P c i) in
    let is : get_or (ends_of C) p 0 ≡ c.start + op_count c = end_is C p c at in
    elim (cases_lt (c.start + op_count c) (end_of P a)) [
      | inl less ↦
          let f = end_of-found P a (c.start + op_count c) less in
          let d : ChangeParts = f.0 in
          let beyond : c.start + op_count c < d.start + op_count d = f.3 in
          let j = own_there C a ps d s o (past_changes-In past_set C d f.1) f.2 in
          let low : nat_lt j.0 (count_by a P) ≡ true = sym (held_by_number past_set C a ps j.0 (get_or ps j.0 0) s t o j.1 refl) ∙ (holds-past_changes past_set C (get_or ps j.0 0) d s j.2).1 f.1 in
          let before : j.0 < count_by a P = grind (arith, nat_tests) in
          elim (cases_lt j.0 k) [
            | inl earlier ↦ let turn : d.start + op_count d ≤ c.start = ends_before C a ps j.0 k d c s o earlier small j.2 w.1 in absurd (omega arith)
            | inr late ↦
                let one : d ≡ c = same_at C ps j.0 k d c (omega arith) j.2 w.1 in
                let same : c.start + op_count c < c.start + op_count c = subst (λ (x : ChangeParts). c.start + op_count c < x.start + op_count x) one beyond in
                absurd (omega arith)
          ]
      | inr all ↦ omega arith
    ]

-- ---- a clock, actor by actor

pub clocks_first : (P : List ChangeParts) (K : List (Actor × ℕ)) → K ≡ [] → HasEnds P K []
clocks_first P K none = record { noted = λ a i. absurd i; others = λ a. inr (ap (λ es. end_at es a) none) }

pub clocks_more : (P : List ChangeParts) (K N : List (Actor × ℕ)) (actors : List Actor) (k : ℕ) (d : Actor) → k < length actors
    → (n : ℕ) → n ≡ end_of P (get_or actors k d) → ((a : Actor) → end_at N a ≡ cond (same_actor (get_or actors k d) a) n (end_at K a)) → HasEnds P K (take k actors) → HasEnds P N (take (k + 1) actors)
clocks_more P K N actors k d small n is set w = record {
  noted = λ a i. elim (In-push a (take k actors) x (subst (In a) (take_more actors k d small) i)) [
    | inl old ↦ elim (truth (same_actor x a)) [ inl t ↦ own a t | inr f ↦ other a f ∙ w.noted a old ]
    | inr is ↦ own a (subst (λ b. same_actor x b ≡ true) (sym is) (same_actor-itself x))
  ];
  others = λ a. elim (truth (same_actor x a)) [ inl t ↦ inl (own a t) | inr f ↦ elim (w.others a) [ inl e ↦ inl (other a f ∙ e) | inr z ↦ inr (other a f ∙ z) ] ];
} where
  x : Actor
  x = get_or actors k d

  own : (a : Actor) → same_actor x a ≡ true → end_at N a ≡ end_of P a
  own a t = set a ∙ ap (λ b. cond b n (end_at K a)) t ∙ is ∙ ap (end_of P) (same_actor-same x a t)

  other : (a : Actor) → same_actor x a ≡ false → end_at N a ≡ end_at K a
  other a f = set a ∙ ap (λ b. cond b n (end_at K a)) f

-- it is whole, where the actors of all changes are there
pub clocks_all : (P C : List ChangeParts) (K : List (Actor × ℕ)) (actors : List Actor) → AllIn P C → ((c : ChangeParts) → In c C → In c.actor actors) → HasEnds P K actors → IsClockOf K P
clocks_all P C K actors of all w a = elim (w.others a) [
  | inl e ↦ e
  | inr z ↦ elim (cases_lt 0 (end_of P a)) [
    | inl some ↦ let f = end_of-found P a 0 some in w.noted a (subst (λ b. In b actors) (same_actor-same f.0.actor a f.2) (all f.0 (of f.0 f.1)))
    | inr none ↦ omega (arith, z, none)
  ]
]

pub end_set : (b : Bool) (n : ℕ) (o : Option ℕ) → unwrap_or (cond b (Some n) o) 0 ≡ cond b n (unwrap_or o 0)
end_set true n o = refl
end_set false n o = refl
