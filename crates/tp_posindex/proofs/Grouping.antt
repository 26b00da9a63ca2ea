-- Counts in groups: sums of the first counts, and what a change to a count, and one count more, leave of the sums.
use Rattle.std.proofs.Common.{◌≡◌, inl, inr, ℕ, zero, suc, ◌+◌, ◌-◌, ◌*◌, ◌/◌, ◌%◌, ◌^◌, ◌<◌, ◌≤◌, List, [], ◌∷◌, ◌++◌, length, take, drop, get_or, set, sum, min, refl, sym, ap, ◌∙◌, arith, length-append}
use Rattle.std.proofs.lemmas.List.{take-set-le, take-append-le, length-set}
use Rattle.std.proofs.lemmas.Grind.{div_ceil_times}
use Rattle.std.proofs.lemmas.Nat.{mul-le}
use Rattle.std.proofs.lemmas.List.Sums.{sum_by-cons, sum_by-append, sum_by_more}
use Rattle.tp_elements.proofs.Lists.{below_or_not}
use Rattle.tp_posindex.specs.CountsState.{AreSums, IsGrouped, IsSummed}
use Rattle.tp_posindex.proofs.Laying.{sum_stretch}

-- ---- numbers

-- ---- lists

-- a list within a length is taken whole
take_whole : (n : ℕ) (xs : List ℕ) → length xs ≤ n → take n xs ≡ xs
take_whole zero [] le = refl
take_whole zero (x ∷ xs) le = absurd (omega arith)
take_whole (suc n) [] le = refl
take_whole (suc n) (x ∷ xs) le = ap (λ z. x ∷ z) (take_whole n xs (omega arith))

-- ---- sums

sum-cons : (x : ℕ) (xs : List ℕ) → sum (x ∷ xs) ≡ x + sum xs
sum-cons x xs = sum_by-cons (λ (y : ℕ). y) x xs

-- a sum of the first numbers, one of which is replaced
sum_take-set : (xs : List ℕ) (n i v : ℕ) → i < n → i < length xs → sum (take n (set xs i v)) + get_or xs i 0 ≡ sum (take n xs) + v
sum_take-set [] n i v in_n lt = absurd (omega arith)
sum_take-set (x ∷ xs) zero i v in_n lt = absurd (omega arith)
sum_take-set (x ∷ xs) (suc n) zero v in_n lt =
    let a = sum-cons x (take n xs) in
    let b = sum-cons v (take n xs) in
    omega arith
sum_take-set (x ∷ xs) (suc n) (suc i) v in_n lt =
    let rest = sum_take-set xs n i v (omega arith) (omega arith) in
    let a = sum-cons x (take n xs) in
    let b = sum-cons x (take n (set xs i v)) in
    omega arith

-- a sum with one number replaced
pub sum-set : (xs : List ℕ) (i v : ℕ) → i < length xs → sum (set xs i v) + get_or xs i 0 ≡ sum xs + v
sum-set xs i v lt =
    let part = sum_take-set xs (length xs) i v lt lt in
    let same = length-set xs i v in
    let whole = ap sum (take_whole (length xs) xs (omega arith)) in
    let whole' = ap sum (take_whole (length xs) (set xs i v) (omega arith)) in
    omega arith

-- the first numbers of a list have no greater sum than more of them
sum_take-le : (xs : List ℕ) (n m : ℕ) → n ≤ m → sum (take n xs) ≤ sum (take m xs)
sum_take-le xs n m le =
    let parts = sum_stretch n (m - n) xs in
    let e : n + (m - n) ≡ m = omega arith in
    let same = ap (λ k. sum (take k xs)) e in
    omega arith

-- ---- groups

-- the sums together are the counts together
pub sum-sums : (n : ℕ) (C S : List ℕ) → IsGrouped n C S → sum S ≡ sum C
sum-sums n C S kept =
    let whole = ap sum (take_whole (length S) S (omega arith)) in
    let whole' = ap sum (take_whole (n * length S) C kept.many) in
    let same = kept.summed (length S) (omega arith) in
    omega arith

-- the group of a count is there
pub group_within : (n g : ℕ) (C S : List ℕ) (i : ℕ) → IsGrouped n C S → n * g ≤ i → i < length C → g < length S
group_within n g C S i kept below lt = elim (below_or_not g (length S)) as (λ _. g < length S) [
  | inl inside ↦ inside
  | inr past ↦ (let m = kept.many in let up = mul-le n (length S) n g (omega arith) past in absurd (omega arith))
]

-- a count is within its group's sum
pub count_within : (n g : ℕ) (C S : List ℕ) (i : ℕ) → IsGrouped n C S → n * g ≤ i → i < n * (g + 1) → i < length C → get_or C i 0 ≤ get_or S g 0
count_within n g C S i kept below above lt =
    let inside = group_within n g C S i kept below lt in
    let here = kept.summed g (omega arith) in
    let next = kept.summed (g + 1) (omega arith) in
    let sum_next = sum_by_more (λ (x : ℕ). x) S g 0 inside in
    let count_next = sum_by_more (λ (x : ℕ). x) C i 0 lt in
    let first = sum_take-le C (n * g) i below in
    let last = sum_take-le C (i + 1) (n * (g + 1)) (omega arith) in
    omega arith

-- a count is replaced, and its group's sum by as much more or less
pub IsGrouped-set : (n g : ℕ) (C S : List ℕ) (i v w : ℕ) → IsGrouped n C S → n * g ≤ i → i < n * (g + 1) → i < length C → w + get_or C i 0 ≡ get_or S g 0 + v → sum C + v < 2 ^ 32 + get_or C i 0 → IsGrouped n (set C i v) (set S g w)
IsGrouped-set n g C S i v w kept below above lt change fits =
    let inside = group_within n g C S i kept below lt in
    let counts = length-set C i v in
    let sums = ap (λ k. n * k) (length-set S g w) in
    record {
      fits = (let whole = sum-set C i v lt in omega arith);
      many = (let m = kept.many in omega arith);
      few = (let m = kept.few in omega arith);
      summed = λ h le. elim (below_or_not g h) as (λ _. sum (take h (set S g w)) ≡ sum (take (n * h) (set C i v))) [
        | inl after ↦ (
            let up = mul-le n (g + 1) n h (omega arith) (omega arith) in
            let in_group = kept.summed h (omega (arith, le, length-set S g w)) in
            let a = sum_take-set S h g w after inside in
            let b = sum_take-set C (n * h) i v (omega arith) lt in
            omega arith)
        | inr before ↦ (
            let up = mul-le n h n g (omega arith) before in
            ap sum (take-set-le h S g w before)
            ∙ kept.summed h (omega (arith, le, length-set S g w))
            ∙ sym (ap sum (take-set-le (n * h) C i v (omega arith))))
      ];
    }

-- the sum of the next group
pub AreSums-push : (n : ℕ) (C S : List ℕ) (k s : ℕ) → AreSums n C S → k ≡ min n (length C - n * length S) → s ≡ sum (take k (drop (n * length S) C)) → AreSums n C (S ++ s ∷ [])
AreSums-push n C S k s summed k_is s_is = λ g le. elim (below_or_not (length S) g) as (λ _. sum (take g (S ++ s ∷ [])) ≡ sum (take (n * g) C)) [
  | inl last ↦ (
      let more = length-append S (s ∷ []) in
      let is : g ≡ length S + 1 = omega arith in
      let times : n * g ≡ n * (length S + 1) = ap (λ m. n * m) is in
      let whole = ap sum (take_whole g (S ++ s ∷ []) (omega arith)) in
      let parts = sum_by-append (λ (x : ℕ). x) S (s ∷ []) in
      let one = sum-cons s [] in
      let before = summed (length S) (omega arith) in
      let all = ap sum (take_whole (length S) S (omega arith)) in
      let stretch = sum_stretch (n * length S) k C in
      let reached : sum (take (n * length S + k) C) ≡ sum (take (n * g) C) = elim (below_or_not (length C - n * length S) n) as (λ _. sum (take (n * length S + k) C) ≡ sum (take (n * g) C)) [
        | inl short ↦ (
            let up : length C ≤ n * length S + k = omega arith in
            let up' : length C ≤ n * g = omega arith in
            ap sum (take_whole (n * length S + k) C up) ∙ sym (ap sum (take_whole (n * g) C up')))
        | inr full ↦ (let e : n * length S + k ≡ n * g = omega arith in ap (λ m. sum (take m C)) e)
      ] in
      omega arith)
  | inr first ↦ ap sum (take-append-le g S (s ∷ []) first) ∙ summed g first
]

-- a group begins before the end where not all groups come before it
pub group_begins : (n g groups count : ℕ) → 0 < n → g < groups → groups ≡ count / n + min 1 (count % n) → g * n < count
group_begins n g groups count pos before is =
    let times = (div_ceil_times count n pos).1 in
    let same : groups * n ≡ (count / n + min 1 (count % n)) * n = ap (λ k. k * n) is in
    let up = mul-le (g + 1) n groups n (omega arith) (omega arith) in
    omega arith

-- a group that begins before as many others end is one of them
pub below_times : (n g groups : ℕ) → g * n < n * groups → g < groups
below_times n g groups lt = elim (below_or_not g groups) as (λ _. g < groups) [
  | inl inside ↦ inside
  | inr past ↦ (let up = mul-le n groups n g (omega arith) past in absurd (omega arith))
]

-- ---- groups and ranges

-- the sums of the ranges together are the counts together
pub sum-ranges : (C S R : List ℕ) → IsSummed C S R → sum R ≡ sum C
sum-ranges C S R kept = sum-sums 16 S R kept.ranges ∙ sum-sums 128 C S kept.groups

-- a count's group is there
pub counted_group : (C S R : List ℕ) (i : ℕ) → IsSummed C S R → i < length C → i / 128 < length S
counted_group C S R i kept lt = group_within 128 (i / 128) C S i kept.groups (omega arith) lt

-- and the group's range
pub counted_range : (C S R : List ℕ) (i : ℕ) → IsSummed C S R → i < length C → i / 128 / 16 < length R
counted_range C S R i kept lt = group_within 16 (i / 128 / 16) S R (i / 128) kept.ranges (omega arith) (counted_group C S R i kept lt)

-- a count is within the sum of its group
pub count_within_group : (C S R : List ℕ) (i : ℕ) → IsSummed C S R → i < length C → get_or C i 0 ≤ get_or S (i / 128) 0
count_within_group C S R i kept lt = count_within 128 (i / 128) C S i kept.groups (omega arith) (omega arith) lt

-- and that within the sum of the group's range
pub group_within_range : (C S R : List ℕ) (i : ℕ) → IsSummed C S R → i < length C → get_or S (i / 128) 0 ≤ get_or R (i / 128 / 16) 0
group_within_range C S R i kept lt = count_within 16 (i / 128 / 16) S R (i / 128) kept.ranges (omega arith) (omega arith) (counted_group C S R i kept lt)

-- a count is replaced, and the sums of its group and range by as much more or less
pub IsSummed-set : (C S R : List ℕ) (i v w u : ℕ) → IsSummed C S R → i < length C → w + get_or C i 0 ≡ get_or S (i / 128) 0 + v → u + get_or C i 0 ≡ get_or R (i / 128 / 16) 0 + v → sum C + v < 2 ^ 32 + get_or C i 0 → IsSummed (set C i v) (set S (i / 128) w) (set R (i / 128 / 16) u)
IsSummed-set C S R i v w u kept lt group range fits =
    let g = i / 128 in
    let same = sum-sums 128 C S kept.groups in
    record {
      groups = IsGrouped-set 128 g C S i v w kept.groups (omega arith) (omega arith) lt group fits;
      ranges = IsGrouped-set 16 (g / 16) S R g w u kept.ranges (omega arith) (omega arith) (counted_group C S R i kept lt) (omega arith) (omega arith);
    }

-- what the first counts are together, in three parts: of ranges, of groups and of counts
pub sum_parts : (C S R : List ℕ) (i : ℕ) → IsSummed C S R → i ≤ length C
    → sum (take (i / 128 / 16) R) + sum (take (i / 128 - i / 128 / 16 * 16) (drop (i / 128 / 16 * 16) S)) + sum (take (i - i / 128 * 128) (drop (i / 128 * 128) C)) ≡ sum (take i C)
sum_parts C S R i kept within =
    let g = i / 128 in
    let r = g / 16 in
    let groups : g ≤ length S = omega (arith, within, kept.groups.many) in
    let ranges : r ≤ length R = omega (arith, groups, kept.ranges.many) in
    let first : sum (take r R) ≡ sum (take (r * 16) S) = kept.ranges.summed r ranges ∙ (let e : 16 * r ≡ r * 16 = omega arith in ap (λ k. sum (take k S)) e) in
    let second = sum_stretch (r * 16) (g - r * 16) S in
    let up : r * 16 + (g - r * 16) ≡ g = omega arith in
    let second' = ap (λ k. sum (take k S)) up in
    let third : sum (take g S) ≡ sum (take (g * 128) C) = kept.groups.summed g groups ∙ (let e : 128 * g ≡ g * 128 = omega arith in ap (λ k. sum (take k C)) e) in
    let last = sum_stretch (g * 128) (i - g * 128) C in
    let up' : g * 128 + (i - g * 128) ≡ i = omega arith in
    let last' = ap (λ k. sum (take k C)) up' in
    omega (arith, first, second, second', third, last, last')
