-- Laws of the changes that a message tells of as known.
use Rattle.tp_sync.proofs.Common.{◌≡◌, ◌↔◌, ◌<◌, ◌≤◌, ℕ, suc, zero, ◌+◌, ◌-◌, ◌*◌, ◌^◌, inl, inr, List, [], ◌∷◌, ◌++◌, length, true, false, cond, nat_le, Some, drop, take, map, refl, sym, ap, subst, ◌∙◌, arith, add-one, leb-true, slice_get, nat_tests, In, IsRising, put, rising, In-append, In-left, In-right, Hash, hash_cmp, ChangeParts, hash_of, heads, has, has_all, In-has, Less, Equal, Greater, cases_lt, length-append, put_at, In-rising, rising-In, rising-rises, hash_exact, hash_total, most_changes, In-has_all, has_all-In, known_hashes, powers_before_end, In-slice_get, has_all-heads, before_end, IsPowerBeforeEnd}
use Rattle.std.proofs.lemmas.Nat.{pow_pos}
use Rattle.std.proofs.Math.Nat.{pow-suc}
use Rattle.std.proofs.Math.Pow.{pow_mono}

-- ---- how many there are

length-put : (h : Hash) (H : List Hash) → length (put hash_cmp h H) ≤ length H + 1
length-put h [] = omega arith
length-put h (y ∷ ys) =
    let more = length-put h ys in
    elim (hash_cmp h y) as (λ o. length (put_at o h y ys (put hash_cmp h ys)) ≤ length (y ∷ ys) + 1) [
      | Less ↦ omega arith
      | Equal ↦ omega arith
      | Greater ↦ omega (arith, more)
    ]

length-rising : (H : List Hash) → length (rising hash_cmp H) ≤ length H
length-rising [] = omega arith
length-rising (h ∷ H) = omega (arith, length-put h (rising hash_cmp H), length-rising H)

length-first : (C : List ChangeParts) → length (map hash_of (take 1 C)) ≤ 1
length-first [] = omega arith
length-first (c ∷ C) = omega arith

length-before_end : (C : List ChangeParts) (n : ℕ) → length (before_end C n) ≤ 1
length-before_end C n =
    elim (nat_le n (length C)) as (λ b. length (cond b (map hash_of (take 1 (drop (length C - n) C))) []) ≤ 1) [
      | true ↦ length-first (drop (length C - n) C)
      | false ↦ omega arith
    ]

length-powers : (C : List ChangeParts) (k : ℕ) → length (powers_before_end C k) ≤ k
length-powers C zero = omega arith
length-powers C (suc k) = omega (arith, length-append (before_end C (2 ^ k)) (powers_before_end C k), length-before_end C (2 ^ k), length-powers C k)

pub known_few : (C : List ChangeParts) → length (known_hashes C) ≤ 32
known_few C = omega (arith, length-rising (powers_before_end C 32), length-powers C 32)

pub known_rises : (C : List ChangeParts) → IsRising hash_cmp (known_hashes C)
known_rises C = rising-rises hash_cmp hash_total (powers_before_end C 32)

-- ---- whose hashes they are

first_at : (C : List ChangeParts) (m : ℕ) (h : Hash) → In h (map hash_of (take 1 (drop m C))) → (c : ChangeParts) × (slice_get C m ≡ Some c) × (hash_of c ≡ h)
first_at [] zero h i = absurd i
first_at [] (suc m) h i = absurd i
first_at (c ∷ C) zero h (inl e) = (c, refl, sym e)
first_at (c ∷ C) zero h (inr i) = absurd i
first_at (c ∷ C) (suc m) h i = first_at C m h i

power_at : (C : List ChangeParts) (k : ℕ) (h : Hash) → In h (before_end C (2 ^ k)) → IsPowerBeforeEnd C h
power_at C k h i =
    let n = 2 ^ k in
    let front : List Hash = map hash_of (take 1 (drop (length C - n) C)) in
    elim (nat_le n (length C)) as (λ b. nat_le n (length C) ≡ b → In h (cond b front []) → IsPowerBeforeEnd C h) [
      | true ↦ λ e j. let w = first_at C (length C - n) h j in record { k = k; change = w.0; within = leb-true n (length C) e; present = w.1; hash = w.2 }
      | false ↦ λ e j. absurd j
    ] refl i

powers_at : (C : List ChangeParts) (n : ℕ) (h : Hash) → In h (powers_before_end C n) → IsPowerBeforeEnd C h
powers_at C zero h i = absurd i
powers_at C (suc k) h i = elim (In-append h (before_end C (2 ^ k)) (powers_before_end C k) i) [
  | inl j ↦ power_at C k h j
  | inr j ↦ powers_at C k h j
]

powers-In : (C : List ChangeParts) (n : ℕ) (h : Hash) → In h (powers_before_end C n) → has C h ≡ true
powers-In C n h i = let w = powers_at C n h i in In-has C w.change h (In-slice_get C (length C - 2 ^ w.k) w.change w.present) w.hash

-- what is declared is there
pub has_all-declared : (C : List ChangeParts) → has_all C (heads C ++ known_hashes C) ≡ true
has_all-declared C = In-has_all C (heads C ++ known_hashes C) (λ h i. elim (In-append h (heads C) (known_hashes C) i) [
  | inl j ↦ has_all-In C (heads C) (has_all-heads C) h j
  | inr j ↦ powers-In C 32 h (rising-In hash_cmp h (powers_before_end C 32) j)
])

-- ---- one more of them

first_is : (C : List ChangeParts) (m : ℕ) (c : ChangeParts) → slice_get C m ≡ Some c → map hash_of (take 1 (drop m C)) ≡ hash_of c ∷ []
first_is [] m c e = cc
first_is (d ∷ C) zero c e = let same : d ≡ c = cc in ap (λ x. hash_of x ∷ []) same
first_is (d ∷ C) (suc m) c e = first_is C m c e

before_end_is : (C : List ChangeParts) (n : ℕ) (c : ChangeParts) → n ≤ length C → slice_get C (length C - n) ≡ Some c → before_end C n ≡ hash_of c ∷ []
before_end_is C n c within at =
    let test : nat_le n (length C) ≡ true = grind (arith, nat_tests) in
    ap (λ b. cond b (map hash_of (take 1 (drop (length C - n) C))) []) test ∙ first_is C (length C - n) c at

In-powers : (C : List ChangeParts) (n k : ℕ) (c : ChangeParts) → k < n → 2 ^ k ≤ length C → slice_get C (length C - 2 ^ k) ≡ Some c → In (hash_of c) (powers_before_end C n)
In-powers C zero k c below within at = absurd (omega arith)
In-powers C (suc n) k c below within at = elim (cases_lt k n) [
  | inl less ↦ In-right (hash_of c) (before_end C (2 ^ n)) (powers_before_end C n) (In-powers C n k c less within at)
  | inr more ↦
      let same : k ≡ n = omega arith in
      let one : before_end C (2 ^ n) ≡ hash_of c ∷ [] = subst (λ j. before_end C (2 ^ j) ≡ hash_of c ∷ []) same (before_end_is C (2 ^ k) c within at) in
      In-left (hash_of c) (before_end C (2 ^ n)) (powers_before_end C n) (subst (In (hash_of c)) (sym one) (inl refl))
]

-- no list is so long that 2 ^ 32 places fit in it
below_32 : (k n : ℕ) → n ≤ 4294967295 → 2 ^ k ≤ n → k < 32
below_32 k n few within = elim (cases_lt k 32) [
  | inl less ↦ less
  | inr more ↦ let large : 2 ^ 32 ≤ 2 ^ k = pow_mono {i = 32} {j = k} more in absurd (omega arith)
]

-- they are those of the changes that are powers of two before the end, and no others
pub known_are : (C : List ChangeParts) (h : Hash) → length C ≤ most_changes → In h (known_hashes C) ↔ IsPowerBeforeEnd C h
known_are C h few = (
  λ i. powers_at C 32 h (rising-In hash_cmp h (powers_before_end C 32) i),
  λ w. In-rising hash_cmp hash_exact h (powers_before_end C 32)
      (subst (λ g. In g (powers_before_end C 32)) w.hash (In-powers C 32 w.k w.change (below_32 w.k (length C) few w.within) w.within w.present)),
)

-- a change that is there is put to those before
pub known_there : (C : List ChangeParts) (k back : ℕ) (c : ChangeParts) (old new : List Hash) → back ≡ 2 ^ k → back ≤ length C → slice_get C (length C - back) ≡ Some c
    → old ≡ rising hash_cmp (powers_before_end C k) → new ≡ put hash_cmp (hash_of c) old → new ≡ rising hash_cmp (powers_before_end C (k + 1))
known_there C k back c old new power within at before made =
    let one : before_end C back ≡ hash_of c ∷ [] = before_end_is C back c within at in
    let step : powers_before_end C (k + 1) ≡ hash_of c ∷ powers_before_end C k = ap (powers_before_end C) (add-one k) ∙ ap (λ l. l ++ powers_before_end C k) (ap (before_end C) (sym power) ∙ one) in
    made ∙ ap (put hash_cmp (hash_of c)) before ∙ sym (ap (rising hash_cmp) step)

-- where there are fewer changes than that, those before are all
pub known_past : (C : List ChangeParts) (k back : ℕ) (old : List Hash) → back ≡ 2 ^ k → length C < back
    → old ≡ rising hash_cmp (powers_before_end C k) → old ≡ rising hash_cmp (powers_before_end C (k + 1))
known_past C k back old power past before =
    let test : nat_le back (length C) ≡ false = grind (arith, nat_tests) in
    let none : before_end C back ≡ [] = ap (λ b. cond b (map hash_of (take 1 (drop (length C - back) C))) []) test in
    let step : powers_before_end C (k + 1) ≡ powers_before_end C k = ap (powers_before_end C) (add-one k) ∙ ap (λ l. l ++ powers_before_end C k) (ap (before_end C) (sym power) ∙ none) in
    before ∙ sym (ap (rising hash_cmp) step)

-- ---- the loop that gathers them

-- What is known after k steps, and how far from the end the next change is.
pub record KnownSoFar (C : List ChangeParts) (k back : ℕ) (known : List Hash) : Type 0 where
  pub power : back ≡ 2 ^ k
  pub gathered : known ≡ rising hash_cmp (powers_before_end C k)

pub so_far-begins : (C : List ChangeParts) → KnownSoFar C 0 1 []
so_far-begins C = record { power = refl; gathered = refl }

pub so_far-rises : (C : List ChangeParts) (k back : ℕ) (known : List Hash) → KnownSoFar C k back known → IsRising hash_cmp known
so_far-rises C k back known w = subst (IsRising hash_cmp) (sym w.gathered) (rising-rises hash_cmp hash_total (powers_before_end C k))

pub so_far-positive : (C : List ChangeParts) (k back : ℕ) (known : List Hash) → KnownSoFar C k back known → 0 < back
so_far-positive C k back known w = rw w.power (pow_pos k)

pub so_far-small : (C : List ChangeParts) (k back : ℕ) (known : List Hash) → KnownSoFar C k back known → k < 32 → back ≤ 2 ^ 31
so_far-small C k back known w small = rw w.power (pow_mono {i = k} {j = 31} (omega arith))

doubled : (k back : ℕ) → back ≡ 2 ^ k → back * 2 ≡ 2 ^ (k + 1)
doubled k back e = ap (λ n. n * 2) e ∙ sym (pow-suc 2 k) ∙ ap (λ n. 2 ^ n) (sym (add-one k))

pub so_far-there : (C : List ChangeParts) (k back : ℕ) (c : ChangeParts) (known new : List Hash) → KnownSoFar C k back known → back ≤ length C → slice_get C (length C - back) ≡ Some c
    → new ≡ put hash_cmp (hash_of c) known → KnownSoFar C (k + 1) (back * 2) new
so_far-there C k back c known new w within at made = record {
  power = doubled k back w.power;
  gathered = known_there C k back c known new w.power within at w.gathered made;
}

pub so_far-past : (C : List ChangeParts) (k back : ℕ) (known : List Hash) → KnownSoFar C k back known → length C < back → KnownSoFar C (k + 1) (back * 2) known
so_far-past C k back known w past = record {
  power = doubled k back w.power;
  gathered = known_past C k back known w.power past w.gathered;
}
