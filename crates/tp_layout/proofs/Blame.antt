-- The prefix of the bytes that is to blame for a refusal: the shortest one with a fault other than missing bytes and a
-- missing run.
use Rattle.std.proofs.Common.{◌≡◌, ℕ, zero, suc, ◌+◌, ◌<◌, ◌≤◌, Bool, true, false, List, ◌++◌, length, take, drop, Result, Ok, Err, refl, sym, ap, subst, ◌∙◌, arith, ◌⊎◌, inl, inr}
use Rattle.std.proofs.lemmas.Bool.{cases_eq}
use Rattle.std.proofs.lemmas.List.{length-append, take-append-drop, take_at, length-take, take_all, append_assoc}
use Rattle.tp_codec.proofs.Fields.{AreBytes, AreBytes-take}
use Rattle.tp_layout.specs.declared.error.ChangeError.{ChangeError}
use Rattle.tp_layout.specs.declared.error.ChangeError.TheVariants.{Short, Trailing, NoRun}
use Rattle.tp_layout.specs.declared.parts.ChangeParts.{ChangeParts}
use Rattle.tp_layout.specs.Spelling.{spelling}
use Rattle.tp_layout.specs.Limits.{IsChange}
use Rattle.tp_layout.specs.Reading.{change_at}
use Rattle.tp_layout.specs.Faults.{HasFaultyPrefix}
use Rattle.tp_layout.proofs.WholeChange.{change_takes, change_again, change_stays, change_and_more, run_wanted_and_more}

-- the least number below n at which a test holds
record Least (test : ℕ → Bool) (n : ℕ) : Type 0 where
  at : ℕ
  below : at < n
  holds : test at ≡ true
  before : (k : ℕ) → k < at → test k ≡ false

least : (test : ℕ → Bool) (n : ℕ) → Least test n ⊎ ((k : ℕ) → k < n → test k ≡ false)
least test zero = inr (λ k lt. absurd (omega arith))
least test (suc n) =
    elim (least test n) [
      | inl found ↦ inl (record { at = found.at; below = omega (arith, found.below); holds = found.holds; before = found.before })
      | inr none ↦ last (test n) refl none
    ]
  where
    last : (b : Bool) → test n ≡ b → ((k : ℕ) → k < n → test k ≡ false) → Least test (suc n) ⊎ ((k : ℕ) → k < suc n → test k ≡ false)
    last true h none = inl (record { at = n; below = omega arith; holds = h; before = none })
    last false h none = inr (λ k lt. elim (cases_eq k n) [ inl same ↦ rw same h | inr other ↦ none k (omega arith) ])

-- a fault other than missing bytes and a missing run
abbrev is_other : ChangeError → Bool
is_other Short = false
is_other NoRun = false
is_other e = true

abbrev is_fault : Result ChangeParts ChangeError → Bool
is_fault (Ok c) = false
is_fault (Err e) = is_other e

apart_short : (e : ChangeError) → is_other e ≡ true → e ≡ Short → ⊥
apart_short e h same = let other : is_other e ≡ false = ap is_other same in cc

apart_run : (e : ChangeError) → is_other e ≡ true → e ≡ NoRun → ⊥
apart_run e h same = let other : is_other e ≡ false = ap is_other same in cc

other_apart : (e : ChangeError) → (e ≡ Short → ⊥) → (e ≡ NoRun → ⊥) → is_other e ≡ true
other_apart Short short ran = absurd (short refl)
other_apart NoRun short ran = absurd (ran refl)
other_apart e short ran = refl

wants : (e : ChangeError) → is_other e ≡ false → (e ≡ Short) ⊎ (e ≡ NoRun)
wants Short h = inl refl
wants NoRun h = inr refl
wants e h = absurd cc

fault_is : (r : Result ChangeParts ChangeError) → is_fault r ≡ true → (e : ChangeError) × (r ≡ Err e) × (is_other e ≡ true)
fault_is (Ok c) h = absurd cc
fault_is (Err e) h = (e, refl, h)

-- a change, or bytes that only want more
no_fault_is : (r : Result ChangeParts ChangeError) → is_fault r ≡ false → ((c : ChangeParts) × (r ≡ Ok c)) ⊎ ((r ≡ Err Short) ⊎ (r ≡ Err NoRun))
no_fault_is (Ok c) h = inl (c, refl)
no_fault_is (Err e) h =
    elim (wants e h) [
      | inl short ↦ inr (inl (ap (λ (f : ChangeError). Err f) short))
      | inr ran ↦ inr (inr (ap (λ (f : ChangeError). Err f) ran))
    ]

fault_of : (r : Result ChangeParts ChangeError) (e : ChangeError) → r ≡ Err e → (e ≡ Short → ⊥) → (e ≡ NoRun → ⊥) → is_fault r ≡ true
fault_of r e h short ran = rw h (other_apart e short ran)

same_fault : (d e : ChangeError) → (let r : Result ChangeParts ChangeError = Err d in r) ≡ Err e → d ≡ e
same_fault d e h = cc

-- no change's bytes begin with a prefix that stays faulty
pub barred_by : (prefix : List ℕ) (e : ChangeError) → ((more : List ℕ) → length (prefix ++ more) ≤ 4194304 → change_at (prefix ++ more) ≡ Err e) → (c : ChangeParts) (more : List ℕ) → IsChange c → spelling c ≡ prefix ++ more → ⊥
barred_by prefix e longer c more is begins =
    let size : length (prefix ++ more) ≤ 4194304 = rw (← begins) is.size in
    let fault : change_at (prefix ++ more) ≡ Err e = longer more size in
    let read : change_at (prefix ++ more) ≡ Ok c = ap change_at (sym begins) ∙ change_again c is in
    let no : (let r : Result ChangeParts ChangeError = Ok c in r) ≡ Err e = sym read ∙ fault in
    cc

prefix_at : (bytes : List ℕ) → AreBytes bytes → length bytes ≤ 4194304 → (e : ChangeError) → change_at bytes ≡ Err e
    → (n : ℕ) → n ≤ length bytes → is_fault (change_at (take n bytes)) ≡ true → ((k : ℕ) → k < n → is_fault (change_at (take k bytes)) ≡ false) → HasFaultyPrefix bytes e
prefix_at bytes fits size e bad n within faulty before =
    let prefix = take n bytes in
    let back = drop n bytes in
    let whole : prefix ++ back ≡ bytes = take-append-drop n bytes in
    let f = fault_is (change_at prefix) faulty in
    let prefix_fits : AreBytes prefix = AreBytes-take n bytes fits in
    let small : length (prefix ++ back) ≤ 4194304 = rw whole size in
    let on : change_at bytes ≡ Err f.0 = ap change_at (sym whole) ∙ change_stays prefix back f.0 prefix_fits small f.1 (apart_short f.0 f.2) (apart_run f.0 f.2) in
    let same : f.0 ≡ e = same_fault f.0 e (sym on ∙ bad) in
    let longer : (more : List ℕ) → length (prefix ++ more) ≤ 4194304 → change_at (prefix ++ more) ≡ Err e
    = λ more few. change_stays prefix more f.0 prefix_fits few f.1 (apart_short f.0 f.2) (apart_run f.0 f.2) ∙ ap (λ (d : ChangeError). Err d) same in (
      prefix,
      back,
      sym whole,
      record {
        barred = barred_by prefix e longer;
        shorter = λ begin more parts some.
            let len : length prefix ≡ length begin + length more = ap length parts ∙ length-append begin more in
            let lt : length begin < n = omega (arith, length-take n bytes) in
            let all : bytes ≡ begin ++ (more ++ back) = sym whole ∙ ap (λ (b : List ℕ). b ++ back) parts ∙ append_assoc begin more back in
            let is_prefix : take (length begin) bytes ≡ begin = ap (take (length begin)) all ∙ take_at begin (more ++ back) (length begin) refl in
            let begin_fits : AreBytes begin = subst AreBytes is_prefix (AreBytes-take (length begin) bytes fits) in
            let none : is_fault (change_at begin) ≡ false = subst (λ (b : List ℕ). is_fault (change_at b) ≡ false) is_prefix (before (length begin) lt) in
            elim (no_fault_is (change_at begin) none) [
              | inl read ↦ let t = change_takes begin read.0 begin_fits read.1 in inl (read.0, t.0, t.1)
              | inr wanting ↦ inr wanting
            ];
        longer = longer;
      },
    )

-- A fault other than missing bytes and a missing run has a prefix that is to blame.
pub some_prefix : (bytes : List ℕ) → AreBytes bytes → length bytes ≤ 4194304 → (e : ChangeError) → change_at bytes ≡ Err e → (e ≡ Short → ⊥) → (e ≡ NoRun → ⊥) → HasFaultyPrefix bytes e
some_prefix bytes fits size e bad short ran =
    elim (least (λ n. is_fault (change_at (take n bytes))) (suc (length bytes))) [
      | inl l ↦ prefix_at bytes fits size e bad l.at (omega (arith, l.below)) l.holds l.before
      | inr none ↦
          let quiet : is_fault (change_at bytes) ≡ false = subst (λ (b : List ℕ). is_fault (change_at b) ≡ false) (take_all (length bytes) bytes (omega arith)) (none (length bytes) (omega arith)) in
          let loud : is_fault (change_at bytes) ≡ true = fault_of (change_at bytes) e bad short ran in
          absurd cc
    ]

-- what the answer to a prefix is
data Answer (r : Result ChangeParts ChangeError) : Type 0 where
  reads : (c : ChangeParts) → r ≡ Ok c → Answer r
  short : r ≡ Err Short → Answer r
  ran : r ≡ Err NoRun → Answer r
  other : (e : ChangeError) → r ≡ Err e → is_other e ≡ true → Answer r

answer_of : (r : Result ChangeParts ChangeError) → Answer r
answer_of (Ok c) = reads c refl
answer_of (Err Short) = short refl
answer_of (Err NoRun) = ran refl
answer_of (Err e) = other e refl refl

not_short : (prefix more : List ℕ) (c : ChangeParts) → AreBytes prefix → length (prefix ++ more) ≤ 4194304 → change_at prefix ≡ Ok c → change_at (prefix ++ more) ≡ Err Short → ⊥
not_short prefix more c fits size read bad =
    let t = change_takes prefix c fits read in
    let whole : prefix ++ more ≡ spelling c ++ more = ap (λ (b : List ℕ). b ++ more) t.1 in
    elim (change_and_more c more t.0 (rw (← whole) size)) [
      | inl ok ↦ let wrong : (let r : Result ChangeParts ChangeError = Ok c in r) ≡ Err Short = sym ok ∙ ap change_at (sym whole) ∙ bad in cc
      | inr late ↦ let wrong : Trailing ≡ Short = same_fault Trailing Short (sym late ∙ ap change_at (sym whole) ∙ bad) in cc
    ]

no_run_short : (prefix more : List ℕ) → AreBytes prefix → length (prefix ++ more) ≤ 4194304 → change_at prefix ≡ Err NoRun → change_at (prefix ++ more) ≡ Err Short → ⊥
no_run_short prefix more fits size r bad =
    elim (run_wanted_and_more prefix more fits size r) [
      | inl same ↦ let wrong : NoRun ≡ Short = same_fault NoRun Short (sym same ∙ bad) in cc
      | inr late ↦ let wrong : Trailing ≡ Short = same_fault Trailing Short (sym late ∙ bad) in cc
    ]

-- Where bytes are missing, nothing is wrong with any prefix but that bytes are missing.
pub prefix_of_short : (prefix more : List ℕ) → AreBytes prefix → length (prefix ++ more) ≤ 4194304 → change_at (prefix ++ more) ≡ Err Short → change_at prefix ≡ Err Short
prefix_of_short prefix more fits size bad =
    elim (answer_of (change_at prefix)) [
      | reads c read ↦ absurd (not_short prefix more c fits size read bad)
      | short same ↦ same
      | ran r ↦ absurd (no_run_short prefix more fits size r bad)
      | other e r apart ↦ absurd (apart_short e apart (same_fault e Short (sym (change_stays prefix more e fits size r (apart_short e apart) (apart_run e apart)) ∙ bad)))
    ]
