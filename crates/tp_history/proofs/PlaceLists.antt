-- Laws of the places of a past, and of what is outside it.
use Rattle.tp_history.proofs.Common.{◌≡◌, ℕ, suc, zero, ◌+◌, ◌<◌, ◌≤◌, ◌⊎◌, ◌↔◌, inl, inr, List, [], ◌∷◌, Bool, true, false, ◌||◌, cond, Some, sym, ap, subst, arith, slice_get, nat_cmp, nat_cmp_is, Less, In, AllIn, IsRising, IsBelowAll, truth, never, In-slice_get, Hash, ChangeParts, hash_of, names, is_needed, past, marks, places_from, since, past_places, Sound, HashesOnce}
use Rattle.tp_history.proofs.NamedLaws.{In-has}
use Rattle.tp_history.proofs.PastLaws.{past-In, with_reached-In, In-with_reached, kept-In}
use Rattle.tp_history.proofs.MarksLaws.{hashes_once}

-- ---- places rise

below_later : (n m : ℕ) (bs : List Bool) → n < m → IsBelowAll nat_cmp n (places_from m bs)
below_later n m [] h = tt
below_later n m (b ∷ bs) h =
    let rest : IsBelowAll nat_cmp n (places_from (m + 1) bs) = below_later n (m + 1) bs (omega arith) in
    elim b as (λ t. IsBelowAll nat_cmp n (cond t (m ∷ places_from (m + 1) bs) (places_from (m + 1) bs))) [
      | true ↦ (sym (nat_cmp_is n m Less h), rest)
      | false ↦ rest
    ]

places_from-rise : (n : ℕ) (bs : List Bool) → IsRising nat_cmp (places_from n bs)
places_from-rise n [] = tt
places_from-rise n (b ∷ bs) =
    let rest = places_from-rise (n + 1) bs in
    elim b as (λ t. IsRising nat_cmp (cond t (n ∷ places_from (n + 1) bs) (places_from (n + 1) bs))) [
      | true ↦ (below_later n (n + 1) bs (omega arith), rest)
      | false ↦ rest
    ]

pub past_places-rise : (C : List ChangeParts) (H : List Hash) → IsRising nat_cmp (past_places C H)
past_places-rise C H = places_from-rise 0 (marks C H)

-- ---- members

places_from-low : (n : ℕ) (bs : List Bool) (i : ℕ) → In i (places_from n bs) → n ≤ i
places_from-low n [] i k = absurd k
places_from-low n (b ∷ bs) i k =
    elim b as (λ t. In i (cond t (n ∷ places_from (n + 1) bs) (places_from (n + 1) bs)) → n ≤ i) [
      | true ↦ λ j. elim j [ inl e ↦ omega arith | inr m ↦ let low : n + 1 ≤ i = places_from-low (n + 1) bs i m in omega arith ]
      | false ↦ λ j. let low : n + 1 ≤ i = places_from-low (n + 1) bs i j in omega arith
    ] k

place_In_past : (n : ℕ) (C : List ChangeParts) (H : List Hash) (i : ℕ) (c : ChangeParts) → HashesOnce C → slice_get C i ≡ Some c → In (n + i) (places_from n (marks C H)) ↔ In c (past C H)
place_In_past n [] H i c o e = cc
place_In_past n (x ∷ C) H zero c o e =
    let s : x ≡ c = cc in
    elim (truth (names H x || is_needed (past C H) x)) [
      | inl t ↦ (
        λ k. subst (λ y. In y (past (x ∷ C) H)) s (kept-In H x (past C H) t),
        λ k. subst (λ b. In (n + 0) (cond b (n ∷ places_from (n + 1) (marks C H)) (places_from (n + 1) (marks C H)))) (sym t) (inl (omega arith)),
      )
      | inr f ↦ (
        λ k.
            let later : In (n + 0) (places_from (n + 1) (marks C H)) = subst (λ b. In (n + 0) (cond b (n ∷ places_from (n + 1) (marks C H)) (places_from (n + 1) (marks C H)))) f k in
            let low : n + 1 ≤ n + 0 = places_from-low (n + 1) (marks C H) (n + 0) later in
            absurd (omega arith),
        λ k. elim (with_reached-In H x c (past C H) k) [
          | inl w ↦ never w.1 f
          | inr m ↦ never (In-has C c (hash_of x) (past-In C H c m) (ap hash_of (sym s))) o.0
        ],
      )
    ]
place_In_past n (x ∷ C) H (suc i) c o e =
    let shift : n + 1 + i ≡ n + suc i = omega arith in
    let rest = place_In_past (n + 1) C H i c o.1 e in
    let other : x ≡ c → ⊥ = λ s. never (In-has C c (hash_of x) (In-slice_get C i c e) (ap hash_of (sym s))) o.0 in (
      λ k. In-with_reached H x c (past C H) (rest.0 (subst (λ m. In m (places_from (n + 1) (marks C H))) (sym shift) (not_first k))),
      λ k. first_or (subst (λ m. In m (places_from (n + 1) (marks C H))) shift (rest.1 (in_rest other k))),
    ) where
      not_first : In (n + suc i) (places_from n (marks (x ∷ C) H)) → In (n + suc i) (places_from (n + 1) (marks C H))
      not_first k =
          elim (names H x || is_needed (past C H) x) as (λ b. In (n + suc i) (cond b (n ∷ places_from (n + 1) (marks C H)) (places_from (n + 1) (marks C H))) → In (n + suc i) (places_from (n + 1) (marks C H))) [
            | true ↦ λ j. elim j [ inl z ↦ absurd (omega arith) | inr m ↦ m ]
            | false ↦ λ j. j
          ] k

      first_or : In (n + suc i) (places_from (n + 1) (marks C H)) → In (n + suc i) (places_from n (marks (x ∷ C) H))
      first_or k =
          elim (names H x || is_needed (past C H) x) as (λ b. In (n + suc i) (cond b (n ∷ places_from (n + 1) (marks C H)) (places_from (n + 1) (marks C H)))) [
            | true ↦ inr k
            | false ↦ k
          ]

      in_rest : (x ≡ c → ⊥) → In c (past (x ∷ C) H) → In c (past C H)
      in_rest other k = elim (with_reached-In H x c (past C H) k) [ inl w ↦ absurd (other (sym w.0)) | inr m ↦ m ]

pub past_places-In : (C : List ChangeParts) (H : List Hash) (i : ℕ) (c : ChangeParts) → Sound C → slice_get C i ≡ Some c → In i (past_places C H) ↔ In c (past C H)
past_places-In C H i c s e =
    let none : 0 + i ≡ i = omega arith in
    subst (λ (m : ℕ). In m (past_places C H) ↔ In c (past C H)) none (place_In_past 0 C H i c (hashes_once C s) e)

-- ---- outside a past

pub past_or_since : (C : List ChangeParts) (H : List Hash) (c : ChangeParts) → In c C → In c (past C H) ⊎ In c (since C H)
past_or_since [] H c i = absurd i
past_or_since (x ∷ C) H c (inl e) =
    elim (names H x || is_needed (past C H) x) as (λ b. In c (cond b (x ∷ past C H) (past C H)) ⊎ In c (cond b (since C H) (x ∷ since C H))) [
      | true ↦ inl (inl e)
      | false ↦ inr (inl e)
    ]
past_or_since (x ∷ C) H c (inr i) =
    elim (names H x || is_needed (past C H) x) as (λ b. In c (cond b (x ∷ past C H) (past C H)) ⊎ In c (cond b (since C H) (x ∷ since C H))) [
      | true ↦ elim (past_or_since C H c i) [ inl p ↦ inl (inr p) | inr q ↦ inr q ]
      | false ↦ elim (past_or_since C H c i) [ inl p ↦ inl p | inr q ↦ inr (inr q) ]
    ]

since-In : (C : List ChangeParts) (H : List Hash) → AllIn (since C H) C
since-In [] H d i = i
since-In (x ∷ C) H d i =
    elim (names H x || is_needed (past C H) x) as (λ b. In d (cond b (since C H) (x ∷ since C H)) → In d (x ∷ C)) [
      | true ↦ λ j. inr (since-In C H d j)
      | false ↦ λ j. elim j [ inl e ↦ inl e | inr k ↦ inr (since-In C H d k) ]
    ] i

once_past_or_since : (C : List ChangeParts) (H : List Hash) (c : ChangeParts) → HashesOnce C → In c (past C H) → In c (since C H) → ⊥
once_past_or_since [] H c o p q = p
once_past_or_since (x ∷ C) H c o p q =
    elim (names H x || is_needed (past C H) x) as (λ b. In c (cond b (x ∷ past C H) (past C H)) → In c (cond b (since C H) (x ∷ since C H)) → ⊥) [
      | true ↦ λ i j. elim i [
        | inl e ↦ never (In-has C c (hash_of x) (since-In C H c j) (ap hash_of e)) o.0
        | inr k ↦ once_past_or_since C H c o.1 k j
      ]
      | false ↦ λ i j. elim j [
        | inl e ↦ never (In-has C c (hash_of x) (past-In C H c i) (ap hash_of e)) o.0
        | inr k ↦ once_past_or_since C H c o.1 i k
      ]
    ] p q

pub not_past_and_since : (C : List ChangeParts) (H : List Hash) (c : ChangeParts) → Sound C → In c (past C H) → In c (since C H) → ⊥
not_past_and_since C H c s p q = once_past_or_since C H c (hashes_once C s) p q
