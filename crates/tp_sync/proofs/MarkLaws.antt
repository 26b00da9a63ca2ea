-- Marks of the changes that are due.
use Rattle.tp_sync.proofs.Common.{◌≡◌, ℕ, List, [], ◌∷◌, Bool, true, false, ◌||◌, not, cond, map, filter, drop, take, refl, sym, ap, ◌∙◌, inl, inr, list_any, In, never, not_true, Hash, ChangeParts, hash_of, names, has, past, pick, marks_since, Sound, In-has, is_due, is_any, drop-map, same_hash-same, same_hash-itself, is_needed, marks, marked_more, lacks-fewer, past-In, take-map}
use Rattle.tp_opid.specs.Same.{same_hash}
use Rattle.tp_history.specs.Named.{HashesOnce}
use Rattle.tp_history.proofs.MarksLaws.{hashes_once}

-- ---- a past, by the hashes of its changes

has_other : (m : Bool) (c : ChangeParts) (later : List ChangeParts) (h : Hash) → same_hash (hash_of c) h ≡ false → has (cond m (c ∷ later) later) h ≡ has later h
has_other true c later h e = ap (λ b. b || has later h) e
has_other false c later h e = refl

has_own : (m : Bool) (c : ChangeParts) (later : List ChangeParts) → has later (hash_of c) ≡ false → has (cond m (c ∷ later) later) (hash_of c) ≡ m
has_own true c later e = ap (λ b. b || has later (hash_of c)) (same_hash-itself (hash_of c))
has_own false c later e = e

apart : (c d : ChangeParts) (C : List ChangeParts) → has C (hash_of c) ≡ false → In d C → same_hash (hash_of c) (hash_of d) ≡ false
apart c d C lacks i =
    not_true (same_hash (hash_of c) (hash_of d)) (λ e. never (In-has C d (hash_of c) i (sym (same_hash-same (hash_of c) (hash_of d) e))) lacks)

other_way : (a b : Bool) → (not a || b) ≡ (b || not a)
other_way true true = refl
other_way true false = refl
other_way false true = refl
other_way false false = refl

-- The marks are those of the changes that K names or whose hash P hasn't, where P has the hashes of the past.
marked_by : (P : List ChangeParts) (H K : List Hash) (C : List ChangeParts) → HashesOnce C → ((d : ChangeParts) → In d C → has P (hash_of d) ≡ has (past C H) (hash_of d))
    → marked_more K C (map not (marks C H)) ≡ map (λ (d : ChangeParts). names K d || not (has P (hash_of d))) C
marked_by P H K [] once same = refl
marked_by P H K (c ∷ C) once same =
    let m : Bool = names H c || is_needed (past C H) c in
    let first : has P (hash_of c) ≡ m = same c (inl refl) ∙ has_own m c (past C H) (lacks-fewer (past C H) C (hash_of c) (past-In C H) once.0) in
    let rest : marked_more K C (map not (marks C H)) ≡ map (λ (d : ChangeParts). names K d || not (has P (hash_of d))) C =
    marked_by P H K C once.1 (λ d i. same d (inr i) ∙ has_other m c (past C H) (hash_of d) (apart c d C once.0 i)) in
    ap (λ l. (not m || names K c) ∷ l) rest
    ∙ ap (λ b. b ∷ map (λ (d : ChangeParts). names K d || not (has P (hash_of d))) C) (other_way m (names K c) ∙ ap (λ b. names K c || not b) (sym first))

-- what is marked is due, and nothing else
pub marks_are_due : (C : List ChangeParts) (H K : List Hash) → Sound C → marks_since C H K ≡ map (is_due C H K) C
marks_are_due C H K sound = marked_by (past C H) H K C (hashes_once C sound) (λ d i. refl)

-- ---- lists by marks

pub pick-map : (f : ChangeParts → Bool) (C : List ChangeParts) → pick (map f C) C ≡ filter f C
pick-map f [] = refl
pick-map f (c ∷ C) = ap (λ l. cond (f c) (c ∷ l) l) (pick-map f C)

pub any-marked : (f : ChangeParts → Bool) (C : List ChangeParts) → list_any (λ (b : Bool). b) (map f C) ≡ is_any (filter f C)
any-marked f [] = refl
any-marked f (c ∷ C) =
    elim (f c) as (λ b. (b || list_any (λ (b : Bool). b) (map f C)) ≡ is_any (cond b (c ∷ filter f C) (filter f C))) [
      | true ↦ refl
      | false ↦ any-marked f C
    ]

-- what the marks of a list pick from a place on
pub pick-drop : (f : ChangeParts → Bool) (C : List ChangeParts) (n : ℕ) → pick (drop n (map f C)) (drop n C) ≡ filter f (drop n C)
pick-drop f C n = ap (λ l. pick l (drop n C)) (drop-map f n C) ∙ pick-map f (drop n C)

pub any-drop : (f : ChangeParts → Bool) (C : List ChangeParts) (n : ℕ) → list_any (λ (b : Bool). b) (drop n (map f C)) ≡ is_any (filter f (drop n C))
any-drop f C n = ap (list_any (λ (b : Bool). b)) (drop-map f n C) ∙ any-marked f (drop n C)

pub any-take : (f : ChangeParts → Bool) (C : List ChangeParts) (n : ℕ) → list_any (λ (b : Bool). b) (take n (map f C)) ≡ is_any (filter f (take n C))
any-take f C n = ap (list_any (λ (b : Bool). b)) (take-map f n C) ∙ any-marked f (take n C)
