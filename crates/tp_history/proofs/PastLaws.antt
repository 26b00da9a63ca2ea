-- Laws of the past in any list of changes.
use Rattle.tp_history.proofs.Common.{◌≡◌, ◌⊎◌, inl, inr, List, [], ◌∷◌, ◌++◌, true, false, ◌||◌, cond, refl, sym, ap, ◌∙◌, subst, ◌≤◌, length, arith, In, AllIn, truth, never, not_true, or_cases, or_left, or_right, neither_left, neither_right, neither, Hash, ChangeParts, hash_of, names, is_needed, past, with_reached}
use Rattle.tp_history.proofs.NamedLaws.{In-names, names-append, names-more, is_needed-append, is_needed-more}

-- ---- one step

pub kept : (H : List Hash) (c : ChangeParts) (K : List ChangeParts) → (names H c || is_needed K c) ≡ true → with_reached H c K ≡ c ∷ K
kept H c K e = rw e refl

pub left_out : (H : List Hash) (c : ChangeParts) (K : List ChangeParts) → (names H c || is_needed K c) ≡ false → with_reached H c K ≡ K
left_out H c K e = rw e refl

-- who stays is the change or was there
pub with_reached-In : (H : List Hash) (c d : ChangeParts) (K : List ChangeParts) → In d (with_reached H c K) → ((d ≡ c) × ((names H c || is_needed K c) ≡ true)) ⊎ In d K
with_reached-In H c d K i =
    elim (truth (names H c || is_needed K c)) [
      | inl t ↦ elim (subst (λ (l : List ChangeParts). In d l) (kept H c K t) i) [ inl e ↦ inl (e, t) | inr k ↦ inr k ]
      | inr f ↦ inr (subst (λ (l : List ChangeParts). In d l) (left_out H c K f) i)
    ]

pub In-with_reached : (H : List Hash) (c d : ChangeParts) (K : List ChangeParts) → In d K → In d (with_reached H c K)
In-with_reached H c d K i =
    elim (names H c || is_needed K c) as (λ b. In d (cond b (c ∷ K) K)) [ true ↦ inr i | false ↦ i ]

pub kept-In : (H : List Hash) (c : ChangeParts) (K : List ChangeParts) → (names H c || is_needed K c) ≡ true → In c (with_reached H c K)
kept-In H c K e = rw e (inl refl)

-- ---- the whole

-- a past is a part of the list
pub past-In : (C : List ChangeParts) (H : List Hash) → AllIn (past C H) C
past-In [] H d i = i
past-In (c ∷ C) H d i = elim (with_reached-In H c d (past C H) i) [ inl e ↦ inl e.0 | inr k ↦ inr (past-In C H d k) ]

-- what is named is in the past
pub past-named : (C : List ChangeParts) (H : List Hash) (c : ChangeParts) → In c C → In (hash_of c) H → In c (past C H)
past-named [] H c i n = absurd i
past-named (d ∷ C) H c (inl e) n =
    rw e (kept-In H d (past C H) (or_left (names H d) (is_needed (past C H) d) (In-names H d (rw (← e) n))))
past-named (d ∷ C) H c (inr i) n = In-with_reached H d c (past C H) (past-named C H c i n)

-- more hashes have the greater past
pub past-more : (C : List ChangeParts) (H K : List Hash) → AllIn H K → AllIn (past C H) (past C K)
past-more [] H K more d i = i
past-more (c ∷ C) H K more d i =
    elim (with_reached-In H c d (past C H) i) [
      | inl e ↦
          let t : (names K c || is_needed (past C K) c) ≡ true =
          elim (or_cases (names H c) (is_needed (past C H) c) e.1) [
            | inl n ↦ or_left (names K c) (is_needed (past C K) c) (names-more H K c more n)
            | inr n ↦ or_right (names K c) (is_needed (past C K) c) (is_needed-more (past C H) (past C K) c (past-more C H K more) n)
          ] in
          rw e.0 (kept-In K c (past C K) t)
      | inr k ↦ In-with_reached K c d (past C K) (past-more C H K more d k)
    ]

-- a past of fewer hashes is the same within a past of more
pub past-of_part : (C : List ChangeParts) (H K : List Hash) → AllIn H K → past (past C K) H ≡ past C H
past-of_part [] H K more = refl
past-of_part (c ∷ C) H K more =
    elim (truth (names K c || is_needed (past C K) c)) [
      | inl t ↦ ap (λ l. past l H) (kept K c (past C K) t) ∙ ap (with_reached H c) (past-of_part C H K more)
      | inr f ↦
          let n : names H c ≡ false = not_true (names H c) (λ t. never (names-more H K c more t) (neither_left (names K c) (is_needed (past C K) c) f)) in
          let m : is_needed (past C H) c ≡ false =
          not_true (is_needed (past C H) c)
          (λ t. never (is_needed-more (past C H) (past C K) c (past-more C H K more) t) (neither_right (names K c) (is_needed (past C K) c) f)) in
          ap (λ l. past l H) (left_out K c (past C K) f) ∙ past-of_part C H K more ∙ sym (left_out H c (past C H) (neither (names H c) (is_needed (past C H) c) n m))
    ]

-- the step, where one more change is kept at the end
with_reached-push : (H D : List Hash) (c d : ChangeParts) (K : List ChangeParts) → d.deps ≡ D → with_reached H c (K ++ d ∷ []) ≡ with_reached (H ++ D) c K ++ d ∷ []
with_reached-push H D c d K e =
    let same : (names H c || is_needed (K ++ d ∷ []) c) ≡ (names (H ++ D) c || is_needed K c) =
    rw (is_needed-append K (d ∷ []) c, names-append H D c, e)
    (elim (names H c) as (λ a. (a || (is_needed K c || (names D c || false))) ≡ ((a || names D c) || is_needed K c)) [
      | true ↦ refl
      | false ↦ elim (is_needed K c) as (λ b. (b || (names D c || false)) ≡ (names D c || b)) [
        | true ↦ elim (names D c) as (λ x. true ≡ (x || true)) [ true ↦ refl | false ↦ refl ]
        | false ↦ refl
      ]
    ]) in
    rw same
    (elim (names (H ++ D) c || is_needed K c) as (λ b. cond b (c ∷ (K ++ d ∷ [])) (K ++ d ∷ []) ≡ cond b (c ∷ K) K ++ d ∷ []) [
      | true ↦ refl
      | false ↦ refl
    ])

-- a named change at the end brings its dependencies
pub past-push : (C : List ChangeParts) (H : List Hash) (d : ChangeParts) → names H d ≡ true → past (C ++ d ∷ []) H ≡ past C (H ++ d.deps) ++ d ∷ []
past-push [] H d e = rw e refl
past-push (c ∷ C) H d e = ap (with_reached H c) (past-push C H d e) ∙ with_reached-push H d.deps c d (past C (H ++ d.deps)) refl

-- a change at the end that isn't named leaves the past as it is
pub past-push_other : (C : List ChangeParts) (H : List Hash) (d : ChangeParts) → names H d ≡ false → past (C ++ d ∷ []) H ≡ past C H
past-push_other [] H d e = rw e refl
past-push_other (c ∷ C) H d e = ap (with_reached H c) (past-push_other C H d e)

pub length-past : (C : List ChangeParts) (H : List Hash) → length (past C H) ≤ length C
length-past [] H = omega arith
length-past (c ∷ C) H =
    let h = length-past C H in
    elim (names H c || is_needed (past C H) c) as (λ b. length (cond b (c ∷ past C H) (past C H)) ≤ length (c ∷ C)) [ true ↦ omega arith | false ↦ omega arith ]
