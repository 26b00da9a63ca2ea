-- Laws of looking for the next mark.
use Rattle.tp_sync.proofs.Common.{◌≡◌, ◌<◌, ◌≤◌, ℕ, suc, zero, inl, inr, List, [], ◌∷◌, length, length-append, Bool, true, false, cond, drop, take, get_or, min, refl, sym, ap, ◌∙◌, arith, list_any, nat_lt, nat_tests, or_left, or_right, neither, ◌++◌, append-nil, ChangeParts, is_any, pick, take_due, get_or_past, cases_lt, IsNext, IsNextBefore, IsStretch}
use Rattle.tp_sync.proofs.TakeLaws.{TakesOn, some_picked}

none_picked : (bs : List Bool) (C : List ChangeParts) (n : ℕ) → length bs ≡ length C → ((k : ℕ) → k < n → get_or bs k false ≡ false) → pick (drop n bs) (drop n C) ≡ pick bs C
none_picked bs C zero l f = refl
none_picked [] [] (suc n) l f = refl
none_picked [] (c ∷ C) (suc n) l f = absurd (omega arith)
none_picked (b ∷ bs) [] (suc n) l f = absurd (omega arith)
none_picked (b ∷ bs) (c ∷ C) (suc n) l f =
    let less : length bs ≡ length C = omega arith in
    let no : b ≡ false = f zero (omega arith) in
    none_picked bs C n less (λ k near. f (suc k) (omega arith)) ∙ sym (ap (λ t. cond t (c ∷ pick bs C) (pick bs C)) no)

-- what isn't marked is passed over at once
pub picked_over : (bs : List Bool) (C : List ChangeParts) (from place : ℕ) → length bs ≡ length C → from ≤ place → ((k : ℕ) → from ≤ k → k < place → get_or bs k false ≡ false)
    → pick (drop place bs) (drop place C) ≡ pick (drop from bs) (drop from C)
picked_over bs C zero place l le f = none_picked bs C place l (λ k near. f k (omega arith) near)
picked_over bs C (suc from) zero l le f = absurd (omega (arith, le))
picked_over [] [] (suc from) (suc place) l le f = refl
picked_over [] (c ∷ C) (suc from) (suc place) l le f = absurd (omega arith)
picked_over (b ∷ bs) [] (suc from) (suc place) l le f = absurd (omega arith)
picked_over (b ∷ bs) (c ∷ C) (suc from) (suc place) l le f =
    let less : length bs ≡ length C = omega arith in
    picked_over bs C from place less (omega arith) (λ k at near. f (suc k) (omega arith) (omega arith))

-- ---- whether one is marked

any_there : (bs : List Bool) (from place : ℕ) → from ≤ place → place < length bs → get_or bs place false ≡ true → list_any (λ (b : Bool). b) (drop from bs) ≡ true
any_there [] from place le lt e = absurd (omega (arith, lt))
any_there (b ∷ bs) zero zero le lt e = or_left b (list_any (λ (b : Bool). b) bs) e
any_there (b ∷ bs) zero (suc place) le lt e = or_right b (list_any (λ (b : Bool). b) bs) (any_there bs zero place (omega arith) (omega arith) e)
any_there (b ∷ bs) (suc from) zero le lt e = absurd (omega (arith, le))
any_there (b ∷ bs) (suc from) (suc place) le lt e = any_there bs from place (omega arith) (omega arith) e

none_there : (bs : List Bool) (from : ℕ) → ((k : ℕ) → from ≤ k → k < length bs → get_or bs k false ≡ false) → list_any (λ (b : Bool). b) (drop from bs) ≡ false
none_there [] zero f = refl
none_there [] (suc from) f = refl
none_there (b ∷ bs) zero f = neither b (list_any (λ (b : Bool). b) bs) (f zero (omega arith) (omega arith)) (none_there bs zero (λ k at near. f (suc k) (omega arith) (omega arith)))
none_there (b ∷ bs) (suc from) f = none_there bs from (λ k at near. f (suc k) (omega arith) (omega arith))

-- one is marked from a place on where the next isn't after all
pub next_is_there : (bs : List Bool) (from place : ℕ) → place < length bs → IsNext bs from place → true ≡ list_any (λ (b : Bool). b) (drop from bs)
next_is_there bs from place small next = sym (any_there bs from place next.beyond small (next.at small))

-- and none where it is
pub next_is_none : (bs : List Bool) (from place : ℕ) → length bs ≤ place → IsNext bs from place → false ≡ list_any (λ (b : Bool). b) (drop from bs)
next_is_none bs from place past next = sym (none_there bs from (λ k at near. next.none k at (omega (arith, near, past))))

-- ---- whether one is marked before a place

any_before : (bs : List Bool) (place to : ℕ) → place < to → get_or bs place false ≡ true → list_any (λ (b : Bool). b) (take to bs) ≡ true
any_before bs place zero lt e = absurd (omega (arith, lt))
any_before [] place (suc to) lt e = cc
any_before (b ∷ bs) zero (suc to) lt e = or_left b (list_any (λ (b : Bool). b) (take to bs)) e
any_before (b ∷ bs) (suc place) (suc to) lt e = or_right b (list_any (λ (b : Bool). b) (take to bs)) (any_before bs place to (omega (arith, lt)) e)

none_before : (bs : List Bool) (to : ℕ) → ((k : ℕ) → k < to → get_or bs k false ≡ false) → list_any (λ (b : Bool). b) (take to bs) ≡ false
none_before bs zero f = refl
none_before [] (suc to) f = refl
none_before (b ∷ bs) (suc to) f = neither b (list_any (λ (b : Bool). b) (take to bs)) (f zero (omega arith)) (none_before bs to (λ k near. f (suc k) (omega (arith, near))))

pub next_tells_before : (bs : List Bool) (to place : ℕ) → IsNextBefore bs 0 to place → nat_lt place to ≡ list_any (λ (b : Bool). b) (take to bs)
next_tells_before bs to place next = elim (cases_lt place to) [
  | inl small ↦
      let less : nat_lt place to ≡ true = grind (arith, nat_tests) in
      less ∙ sym (any_before bs place to small (next.at small))
  | inr past ↦
      let no : nat_lt place to ≡ false = grind (arith, nat_tests) in
      no ∙ sym (none_before bs to (λ k near. next.none k (omega arith) (omega (arith, near, past))))
]

-- ---- where a message looks

pub goes_on : (bs : List Bool) (next first len : ℕ) → len ≡ length bs → first < len → IsNext bs next first → IsStretch bs next (record { from = next; first = first; end = len; goes_on = true })
goes_on bs next first len l small n = record {
  on = next_is_there bs next first (omega (arith, l, small)) n;
  from = refl;
  first = record { beyond = n.beyond; none = n.none; at = λ near. n.at (omega (arith, l, near)) };
  end = omega (arith, l);
  none = λ k past. get_or_past bs k false (omega (arith, l, past));
}

pub begins_anew : (bs : List Bool) (next place first end len : ℕ) → len ≡ length bs → len ≤ place → IsNext bs next place → end ≡ min next len → IsNextBefore bs 0 end first
    → IsStretch bs next (record { from = 0; first = first; end = end; goes_on = false })
begins_anew bs next place first end len l past n e before = record {
  on = next_is_none bs next place (omega (arith, l, past)) n;
  from = refl;
  first = before;
  end = omega (arith, l, e);
  none = λ k at. elim (cases_lt k len) [
    | inl small ↦ n.none k (omega (arith, at, e, small)) (omega (arith, small, past))
    | inr beyond ↦ get_or_past bs k false (omega (arith, l, beyond))
  ];
}

-- ---- the loop that takes, from one that is due to the next

none_marked : (bs : List Bool) (C : List ChangeParts) → length bs ≡ length C → ((k : ℕ) → get_or bs k false ≡ false) → pick bs C ≡ []
none_marked [] C l f = refl
none_marked (b ∷ bs) [] l f = refl
none_marked (b ∷ bs) (c ∷ C) l f =
    let less : length bs ≡ length C = omega arith in
    ap (λ t. cond t (c ∷ pick bs C) (pick bs C)) (f zero) ∙ none_marked bs C less (λ k. f (suc k))

-- where no place is marked from one on nothing is picked from there on
none_left : (bs : List Bool) (C : List ChangeParts) (n : ℕ) → length bs ≡ length C → ((k : ℕ) → n ≤ k → get_or bs k false ≡ false) → pick (drop n bs) (drop n C) ≡ []
none_left bs C zero l f = none_marked bs C l (λ k. f k (omega arith))
none_left [] C (suc n) l f = refl
none_left (b ∷ bs) [] (suc n) l f = absurd (omega arith)
none_left (b ∷ bs) (c ∷ C) (suc n) l f = let less : length bs ≡ length C = omega arith in none_left bs C n less (λ k at. f (suc k) (omega (arith, at)))

-- It goes on at a change that is due, or isn't before the end.
pub record Goes (C : List ChangeParts) (marks : List Bool) (from old end place : ℕ) (changes : List ChangeParts) (bytes next : ℕ) : Type 0 where
  pub takes : TakesOn C marks from old place changes bytes next
  pub at : place < end → get_or marks place false ≡ true

pub over : (C : List ChangeParts) (marks : List Bool) (from old end before place : ℕ) (changes : List ChangeParts) (bytes next : ℕ) → length marks ≡ length C → IsNextBefore marks before end place
    → TakesOn C marks from old before changes bytes next → Goes C marks from old end place changes bytes next
over C marks from old end before place changes bytes next l n w =
    let same : pick (drop place marks) (drop place C) ≡ pick (drop before marks) (drop before C) = picked_over marks C before place l n.beyond n.none in
    record {
      takes = record {
        all = ap (λ d. changes ++ d) same ∙ w.all;
        on = ap (λ d. changes ++ take_due (length changes) bytes d) same ∙ w.on;
        moved = w.moved;
      };
      at = n.at;
    }

pub begins : (C : List ChangeParts) (marks : List Bool) (from old : ℕ) → TakesOn C marks from old from [] 0 old
begins C marks from old = record { all = refl; on = refl; moved = inl (refl, refl) }

pub ended : (C : List ChangeParts) (marks : List Bool) (from old end place : ℕ) (changes : List ChangeParts) (bytes next : ℕ) → length marks ≡ length C → ((k : ℕ) → end ≤ k → get_or marks k false ≡ false) → end ≤ place
    → TakesOn C marks from old place changes bytes next → changes ≡ take_due 0 0 (pick (drop from marks) (drop from C))
ended C marks from old end place changes bytes next l none past w =
    sym (append-nil changes)
    ∙ ap (λ d. changes ++ take_due (length changes) bytes d) (sym (none_left marks C place l (λ k at. none k (omega (arith, at, past)))))
    ∙ w.on

-- ---- whether one is left

-- what is after a part shows whether that is all
left_after : (changes rest all : List ChangeParts) → changes ++ rest ≡ all → is_any rest ≡ nat_lt (length changes) (length all)
left_after changes [] all e =
    let few : length all ≤ length changes = let same = sym (ap length e) ∙ length-append changes [] in omega (arith, same) in
    let no : nat_lt (length changes) (length all) ≡ false = grind (arith, nat_tests) in
    sym no
left_after changes (c ∷ rest) all e =
    let more : length changes < length all = let same = sym (ap length e) ∙ length-append changes (c ∷ rest) in omega (arith, same) in
    let yes : nat_lt (length changes) (length all) ≡ true = grind (arith, nat_tests) in
    sym yes

pub one_is_left : (C : List ChangeParts) (marks : List Bool) (from old end place : ℕ) (changes : List ChangeParts) (bytes next : ℕ) → length marks ≡ length C → end ≤ length marks → place < end
    → Goes C marks from old end place changes bytes next → true ≡ nat_lt (length changes) (length (pick (drop from marks) (drop from C)))
one_is_left C marks from old end place changes bytes next l most small w =
    sym (some_picked marks C place l (omega (arith, small, most, l)) (w.at small))
    ∙ left_after changes (pick (drop place marks) (drop place C)) (pick (drop from marks) (drop from C)) w.takes.all

pub none_is_left : (C : List ChangeParts) (marks : List Bool) (from old end place : ℕ) (changes : List ChangeParts) (bytes next : ℕ) → length marks ≡ length C → ((k : ℕ) → end ≤ k → get_or marks k false ≡ false) → end ≤ place
    → TakesOn C marks from old place changes bytes next → false ≡ nat_lt (length changes) (length (pick (drop from marks) (drop from C)))
none_is_left C marks from old end place changes bytes next l none past w =
    sym (ap is_any (none_left marks C place l (λ k at. none k (omega (arith, at, past)))))
    ∙ left_after changes (pick (drop place marks) (drop place C)) (pick (drop from marks) (drop from C)) w.all
