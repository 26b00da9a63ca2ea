-- Laws of the removals of elements: which operations they are, and that no two can be joined.
use Rattle.std.proofs.Common.{◌≡◌, ℕ, zero, suc, ◌+◌, ◌≤◌, ◌^◌, ◌==◌, ◌&&◌, Bool, true, false, nat_lt, List, [], ◌∷◌, ◌++◌, length, refl, sym, ap, ◌∙◌, subst, append_assoc, add-one, arith}
use Rattle.std.specs.Prelude.{if◌then◌else◌}
use Rattle.std.proofs.lemmas.Bool.{eqb-true}
use Rattle.std.proofs.lemmas.Bool.Decides.{nat_tests}
use Rattle.tp_list.proofs.Tests.{both_left, both_right}
use Rattle.tp_opid.specs.declared.actor.Actor.{Actor}
use Rattle.tp_opid.specs.declared.op_id.OpId.{OpId}
use Rattle.tp_opid.specs.Same.{same_actor}
use Rattle.tp_opid.proofs.Orders.{same_actor-same}
use Rattle.tp_change.specs.declared.op.Op.TheVariants as op_of
use Rattle.tp_layout.specs.declared.record.Record.{Record}
use Rattle.tp_layout.specs.declared.record.Record.TheVariants as record_of
use Rattle.tp_change.specs.Operations.{id_of, deletes_from, ops_in, ops_from}
use Rattle.tp_layout.specs.Counts as operations
use Rattle.tp_edit.specs.EditRecords.{deletes_of, removals_of, removals_from, removal, goes_on, can_count}
use Rattle.tp_edit.specs.RemovalLaws.{RemovalLaw, LongestLaw, joins, can_join}

-- ---- one stretch

-- the element that goes on a stretch of n elements
abbrev pub further : OpId → ℕ → OpId
further first n = id_of first.actor (first.counter + n)

pub goes_on-further : (first : OpId) (n : ℕ) (x : OpId) → goes_on first n x ≡ true → further first n ≡ x
goes_on-further first n x t =
    let actor = same_actor-same first.actor x.actor (both_left (same_actor first.actor x.actor) (x.counter == (first.counter + n)) t) in
    let counter = eqb-true x.counter (first.counter + n) (both_right (same_actor first.actor x.actor) (x.counter == (first.counter + n)) t) in
    ap (λ b. id_of b (first.counter + n)) actor ∙ ap (λ k. id_of x.actor k) (sym counter)

ops_in-removal : (a : Actor) (m : ℕ) (first : OpId) (n : ℕ) → ops_in a m (removal first n) ≡ deletes_from a m first n
ops_in-removal a m first n = by (n == 1) refl where
  by : (b : Bool) → (n == 1) ≡ b → ops_in a m (if b then record_of.Delete first else record_of.DeleteRun first n) ≡ deletes_from a m first n
  by true one = ap (deletes_from a m first) (sym (eqb-true n 1 one))
  by false many = refl

pub count_in-removal : (first : OpId) (n : ℕ) → operations.count_in (removal first n) ≡ n
count_in-removal first n = by (n == 1) refl where
  by : (b : Bool) → (n == 1) ≡ b → operations.count_in (if b then record_of.Delete first else record_of.DeleteRun first n) ≡ n
  by true one = sym (eqb-true n 1 one)
  by false many = refl

deletes_from-more : (a : Actor) (m : ℕ) (first : OpId) (n : ℕ) → deletes_from a m first (suc n) ≡ deletes_from a m first n ++ op_of.Delete (id_of a (m + n)) (further first n) ∷ []
deletes_from-more a m first zero =
    let e : m ≡ m + 0 = omega arith in
    let f : first.counter ≡ first.counter + 0 = omega arith in
    ap (λ k. op_of.Delete (id_of a k) first ∷ []) e ∙ ap (λ k. op_of.Delete (id_of a (m + 0)) (id_of first.actor k) ∷ []) f
deletes_from-more a m first (suc n) =
    let next = id_of first.actor (first.counter + 1) in
    let e : m + 1 + n ≡ m + suc n = omega arith in
    let f : first.counter + 1 + n ≡ first.counter + suc n = omega arith in
    ap (λ l. op_of.Delete (id_of a m) first ∷ l) (
    deletes_from-more a (m + 1) next n
    ∙ ap (λ k. deletes_from a (m + 1) next n ++ op_of.Delete (id_of a k) (further next n) ∷ []) e
    ∙ ap (λ k. deletes_from a (m + 1) next n ++ op_of.Delete (id_of a (m + suc n)) (id_of first.actor k) ∷ []) f
    )

-- ---- the operations

-- the element goes on the stretch
ops_from-on : (a : Actor) (m : ℕ) (first : OpId) (n : ℕ) (x : OpId) (xs : List OpId) → goes_on first n x ≡ true
    → ops_from a m (removals_from first (n + 1) xs) ≡ deletes_from a m first (n + 1) ++ ops_from a (m + (n + 1)) (deletes_of xs)
    → ops_from a m (removals_from first (n + 1) xs) ≡ deletes_from a m first n ++ ops_from a (m + n) (deletes_of (x ∷ xs))
ops_from-on a m first n x xs on rest =
    let ds = deletes_of xs in
    let next : m + (n + 1) ≡ m + n + 1 = omega arith in
    rest
    ∙ ap (λ k. deletes_from a m first k ++ ops_from a (m + (n + 1)) ds) (add-one n)
    ∙ ap (λ l. l ++ ops_from a (m + (n + 1)) ds) (deletes_from-more a m first n)
    ∙ append_assoc (deletes_from a m first n) (op_of.Delete (id_of a (m + n)) (further first n) ∷ []) (ops_from a (m + (n + 1)) ds)
    ∙ ap (λ y. deletes_from a m first n ++ op_of.Delete (id_of a (m + n)) y ∷ ops_from a (m + (n + 1)) ds) (goes_on-further first n x on)
    ∙ ap (λ k. deletes_from a m first n ++ op_of.Delete (id_of a (m + n)) x ∷ ops_from a k ds) next

-- the stretch ends before the element
ops_from-off : (a : Actor) (m : ℕ) (first : OpId) (n : ℕ) (x : OpId) (xs : List OpId)
    → ops_from a (m + n) (removals_from x 1 xs) ≡ deletes_from a (m + n) x 1 ++ ops_from a (m + n + 1) (deletes_of xs)
    → ops_from a m (removal first n ∷ removals_from x 1 xs) ≡ deletes_from a m first n ++ ops_from a (m + n) (deletes_of (x ∷ xs))
ops_from-off a m first n x xs rest =
    ap (λ l. l ++ ops_from a (m + operations.count_in (removal first n)) (removals_from x 1 xs)) (ops_in-removal a m first n)
    ∙ ap (λ k. deletes_from a m first n ++ ops_from a (m + k) (removals_from x 1 xs)) (count_in-removal first n)
    ∙ ap (λ l. deletes_from a m first n ++ l) rest

ops_from-removals_from : (xs : List OpId) (a : Actor) (m : ℕ) (first : OpId) (n : ℕ) → ops_from a m (removals_from first n xs) ≡ deletes_from a m first n ++ ops_from a (m + n) (deletes_of xs)
ops_from-removals_from [] a m first n = ap (λ l. l ++ []) (ops_in-removal a m first n)
ops_from-removals_from (x ∷ xs) a m first n =
    let on = ops_from-removals_from xs a m first (n + 1) in
    let off = ops_from-removals_from xs a (m + n) x 1 in
    let test = goes_on first n x && can_count (n + 1) in
    elim test as (λ b. test ≡ b → ops_from a m (if b then removals_from first (n + 1) xs else removal first n ∷ removals_from x 1 xs) ≡ deletes_from a m first n ++ ops_from a (m + n) (deletes_of (x ∷ xs))) [
      | true ↦ λ t. ops_from-on a m first n x xs (both_left (goes_on first n x) (can_count (n + 1)) t) on
      | false ↦ λ _. ops_from-off a m first n x xs off
    ] refl

-- the operations of removals are those of a delete of each element
pub ops_from-removals : RemovalLaw
ops_from-removals a m [] = refl
ops_from-removals a m (x ∷ xs) = ops_from-removals_from xs a m x 1

count-removals_from : (xs : List OpId) (first : OpId) (n : ℕ) → operations.count_of (removals_from first n xs) ≡ n + length xs
count-removals_from [] first n = let one = count_in-removal first n in omega (arith, one)
count-removals_from (x ∷ xs) first n =
    let on = count-removals_from xs first (n + 1) in
    let off = count-removals_from xs x 1 in
    let one = count_in-removal first n in
    elim (goes_on first n x && can_count (n + 1)) as (λ b. operations.count_of (if b then removals_from first (n + 1) xs else removal first n ∷ removals_from x 1 xs) ≡ n + length (x ∷ xs)) [
      | true ↦ omega (arith, on)
      | false ↦ omega (arith, off, one)
    ]

pub count-removals : (xs : List OpId) → operations.count_of (removals_of xs) ≡ length xs
count-removals [] = refl
count-removals (x ∷ xs) = let all = count-removals_from xs x 1 in omega (arith, all)

-- ---- no two can be joined

abbrev Unjoined : Record → List Record → Type 0
Unjoined r [] = Unit {0}
Unjoined r (s ∷ rs) = can_join r s ≡ false

abbrev AllUnjoined : List Record → Type 0
AllUnjoined [] = Unit {0}
AllUnjoined (r ∷ rs) = Unjoined r rs × AllUnjoined rs

-- the first of the records is that of the stretch, which may have grown
abbrev Begins : OpId → ℕ → List Record → Type 0
Begins first n rs = (m : ℕ) × (rest : List Record) × (n ≤ m) × (rs ≡ removal first m ∷ rest)

removals_from-begins : (xs : List OpId) (first : OpId) (n : ℕ) → Begins first n (removals_from first n xs)
removals_from-begins [] first n = (n, [], omega arith, refl)
removals_from-begins (x ∷ xs) first n =
    let on = removals_from-begins xs first (n + 1) in
    elim (goes_on first n x && can_count (n + 1)) as (λ b. Begins first n (if b then removals_from first (n + 1) xs else removal first n ∷ removals_from x 1 xs)) [
      | true ↦ (on.0, on.1, omega (arith, on.2), on.3)
      | false ↦ (n, removals_from x 1 xs, omega arith, refl)
    ]

can_join-removal : (first : OpId) (n : ℕ) (r : Record) → can_join (removal first n) r ≡ joins first n r
can_join-removal first n r = by (n == 1) refl where
  by : (b : Bool) → (n == 1) ≡ b → can_join (if b then record_of.Delete first else record_of.DeleteRun first n) r ≡ joins first n r
  by true one = ap (λ k. joins first k r) (sym (eqb-true n 1 one))
  by false many = refl

joins-removal : (first : OpId) (n : ℕ) (x : OpId) (m : ℕ) → joins first n (removal x m) ≡ (goes_on first n x && can_count (n + m))
joins-removal first n x m = by (m == 1) refl where
  by : (b : Bool) → (m == 1) ≡ b → joins first n (if b then record_of.Delete x else record_of.DeleteRun x m) ≡ (goes_on first n x && can_count (n + m))
  by true one = ap (λ k. goes_on first n x && can_count (n + k)) (sym (eqb-true m 1 one))
  by false many = refl

-- what can't go on doesn't as part of more
apart : (on : Bool) (n m : ℕ) → 1 ≤ m → (on && nat_lt (n + 1) (2 ^ 32)) ≡ false → (on && nat_lt (n + m) (2 ^ 32)) ≡ false
apart false n m some off = refl
apart true n m some off = grind (arith, nat_tests)

unjoined_at : (first : OpId) (n : ℕ) (x : OpId) (rs : List Record) → (goes_on first n x && can_count (n + 1)) ≡ false → Begins x 1 rs → Unjoined (removal first n) rs
unjoined_at first n x rs off begins =
    subst (Unjoined (removal first n)) (sym begins.3)
    (can_join-removal first n (removal x begins.0) ∙ joins-removal first n x begins.0 ∙ apart (goes_on first n x) n begins.0 begins.2 off)

removals_from-unjoined : (xs : List OpId) (first : OpId) (n : ℕ) → AllUnjoined (removals_from first n xs)
removals_from-unjoined [] first n = (tt, tt)
removals_from-unjoined (x ∷ xs) first n =
    let on = removals_from-unjoined xs first (n + 1) in
    let off = removals_from-unjoined xs x 1 in
    let test = goes_on first n x && can_count (n + 1) in
    elim test as (λ b. test ≡ b → AllUnjoined (if b then removals_from first (n + 1) xs else removal first n ∷ removals_from x 1 xs)) [
      | true ↦ λ _. on
      | false ↦ λ f. (unjoined_at first n x (removals_from x 1 xs) f (removals_from-begins xs x 1), off)
    ] refl

removals-unjoined : (xs : List OpId) → AllUnjoined (removals_of xs)
removals-unjoined [] = tt
removals-unjoined (x ∷ xs) = removals_from-unjoined xs x 1

neighbours : (before after : List Record) (r s : Record) → AllUnjoined (before ++ (r ∷ s ∷ after)) → can_join r s ≡ false
neighbours [] after r s all = all.0
neighbours (b ∷ before) after r s all = neighbours before after r s all.1

pub longest : LongestLaw
longest xs before after r s e = neighbours before after r s (subst AllUnjoined e (removals-unjoined xs))
