-- The tests on hashes as membership, and what they say of joined lists.
use Rattle.tp_history.proofs.Common.{◌≡◌, inl, inr, List, [], ◌∷◌, ◌++◌, true, false, ◌||◌, refl, sym, ◌∙◌, In, AllIn, never, not_true, or_cases, or_left, or_right, both_left, both_right, both, Hash, same_hash, same_hash-same, same_hash-itself, ChangeParts, hash_of, names, has, has_all, is_needed}

-- ---- hashes that name a change

pub names-In : (H : List Hash) (c : ChangeParts) → names H c ≡ true → In (hash_of c) H
names-In [] c e = cc
names-In (h ∷ H) c e =
    elim (or_cases (same_hash h (hash_of c)) (names H c) e) [
      | inl s ↦ inl (sym (same_hash-same h (hash_of c) s))
      | inr r ↦ inr (names-In H c r)
    ]

pub In-names : (H : List Hash) (c : ChangeParts) → In (hash_of c) H → names H c ≡ true
In-names [] c i = absurd i
In-names (h ∷ H) c (inl e) = or_left (same_hash h (hash_of c)) (names H c) (rw (← e) (same_hash-itself (hash_of c)))
In-names (h ∷ H) c (inr i) = or_right (same_hash h (hash_of c)) (names H c) (In-names H c i)

pub names-append : (H K : List Hash) (c : ChangeParts) → names (H ++ K) c ≡ (names H c || names K c)
names-append [] K c = refl
names-append (h ∷ H) K c =
    elim (same_hash h (hash_of c)) as (λ b. (b || names (H ++ K) c) ≡ ((b || names H c) || names K c)) [
      | true ↦ refl
      | false ↦ names-append H K c
    ]

pub names-more : (H K : List Hash) (c : ChangeParts) → AllIn H K → names H c ≡ true → names K c ≡ true
names-more H K c more e = In-names K c (more (hash_of c) (names-In H c e))

-- ---- changes that have a hash

pub has-In : (C : List ChangeParts) (h : Hash) → has C h ≡ true → (c : ChangeParts) × In c C × (hash_of c ≡ h)
has-In [] h e = cc
has-In (c ∷ C) h e =
    elim (or_cases (same_hash (hash_of c) h) (has C h) e) [
      | inl s ↦ (c, inl refl, same_hash-same (hash_of c) h s)
      | inr r ↦ let w = has-In C h r in (w.0, inr w.1, w.2)
    ]

pub In-has : (C : List ChangeParts) (c : ChangeParts) (h : Hash) → In c C → hash_of c ≡ h → has C h ≡ true
In-has [] c h i e = absurd i
In-has (d ∷ C) c h (inl s) e = or_left (same_hash (hash_of d) h) (has C h) (rw (← e, s) (same_hash-itself (hash_of d)))
In-has (d ∷ C) c h (inr i) e = or_right (same_hash (hash_of d) h) (has C h) (In-has C c h i e)

pub has-append : (C D : List ChangeParts) (h : Hash) → has (C ++ D) h ≡ (has C h || has D h)
has-append [] D h = refl
has-append (c ∷ C) D h =
    elim (same_hash (hash_of c) h) as (λ b. (b || has (C ++ D) h) ≡ ((b || has C h) || has D h)) [
      | true ↦ refl
      | false ↦ has-append C D h
    ]

pub has-left : (C D : List ChangeParts) (h : Hash) → has C h ≡ true → has (C ++ D) h ≡ true
has-left C D h e = has-append C D h ∙ or_left (has C h) (has D h) e

pub has-more : (C D : List ChangeParts) (h : Hash) → AllIn C D → has C h ≡ true → has D h ≡ true
has-more C D h more e = let w = has-In C h e in In-has D w.0 h (more w.0 w.1) w.2

pub lacks-fewer : (C D : List ChangeParts) (h : Hash) → AllIn C D → has D h ≡ false → has C h ≡ false
lacks-fewer C D h more e = not_true (has C h) (λ t. never (has-more C D h more t) e)

pub has_all-In : (C : List ChangeParts) (H : List Hash) → has_all C H ≡ true → (h : Hash) → In h H → has C h ≡ true
has_all-In C [] e h i = absurd i
has_all-In C (g ∷ H) e h (inl s) = rw s (both_left (has C g) (has_all C H) e)
has_all-In C (g ∷ H) e h (inr i) = has_all-In C H (both_right (has C g) (has_all C H) e) h i

pub In-has_all : (C : List ChangeParts) (H : List Hash) → ((h : Hash) → In h H → has C h ≡ true) → has_all C H ≡ true
In-has_all C [] f = refl
In-has_all C (g ∷ H) f = both (has C g) (has_all C H) (f g (inl refl)) (In-has_all C H (λ h i. f h (inr i)))

pub has_all-more : (C D : List ChangeParts) (H : List Hash) → AllIn C D → has_all C H ≡ true → has_all D H ≡ true
has_all-more C D H more e = In-has_all D H (λ h i. has-more C D h more (has_all-In C H e h i))

-- ---- changes that depend on one

pub is_needed-In : (C : List ChangeParts) (c : ChangeParts) → is_needed C c ≡ true → (d : ChangeParts) × In d C × In (hash_of c) d.deps
is_needed-In [] c e = cc
is_needed-In (d ∷ C) c e =
    elim (or_cases (names d.deps c) (is_needed C c) e) [
      | inl s ↦ (d, inl refl, names-In d.deps c s)
      | inr r ↦ let w = is_needed-In C c r in (w.0, inr w.1, w.2)
    ]

pub In-is_needed : (C : List ChangeParts) (c d : ChangeParts) → In d C → In (hash_of c) d.deps → is_needed C c ≡ true
In-is_needed [] c d i e = absurd i
In-is_needed (x ∷ C) c d (inl s) e = or_left (names x.deps c) (is_needed C c) (In-names x.deps c (rw (← s) e))
In-is_needed (x ∷ C) c d (inr i) e = or_right (names x.deps c) (is_needed C c) (In-is_needed C c d i e)

pub is_needed-append : (C D : List ChangeParts) (c : ChangeParts) → is_needed (C ++ D) c ≡ (is_needed C c || is_needed D c)
is_needed-append [] D c = refl
is_needed-append (x ∷ C) D c =
    elim (names x.deps c) as (λ b. (b || is_needed (C ++ D) c) ≡ ((b || is_needed C c) || is_needed D c)) [
      | true ↦ refl
      | false ↦ is_needed-append C D c
    ]

pub is_needed-more : (C D : List ChangeParts) (c : ChangeParts) → AllIn C D → is_needed C c ≡ true → is_needed D c ≡ true
is_needed-more C D c more e = let w = is_needed-In C c e in In-is_needed D c w.0 (more w.0 w.1) w.2
