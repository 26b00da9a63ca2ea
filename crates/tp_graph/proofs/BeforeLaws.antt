-- Laws of the marks of deletes.
use Rattle.tp_graph.proofs.Common.{◌≡◌, ℕ, ◌+◌, ◌<◌, ◌≤◌, inl, inr, List, [], ◌∷◌, ◌++◌, length, Bool, true, false, ◌||◌, ◌&&◌, nat_lt, nat_le, not, set, get_or, take, replicate, ◌≢◌, ◌-◌, ◌==◌, subst, refl, sym, ap, ◌∙◌, arith, get_or-set_same, get_or-set_other, get_or-replicate, get_or_past, length-replicate, take_more, eqb-true, eq-eqb, nat_tests, truth, OpId, Place, Record, Insert, Delete, DeleteRun, count_in, count_of, IsClear, AreSet, Marks, covers}
use Rattle.tp_graph.proofs.InsertLaws.{count_of-take}

or_assoc : (a b c : Bool) → (a || (b || c)) ≡ ((a || b) || c)
or_assoc a b c = grind arith

covers-append : (n : ℕ) (rs ts : List Record) (k : ℕ) → covers n (rs ++ ts) k ≡ (covers n rs k || covers (n + count_of rs) ts k)
covers-append n [] ts k = let e : n ≡ n + 0 = omega arith in ap (λ m. covers m ts k) e
covers-append n (Insert after text ∷ rs) ts k =
    let e : n + length text + count_of rs ≡ n + (length text + count_of rs) = omega arith in
    ap (λ b. (nat_le n k && nat_lt k (n + length text)) || b) (covers-append (n + length text) rs ts k ∙ ap (λ m. covers (n + length text) rs k || covers m ts k) e)
    ∙ or_assoc (nat_le n k && nat_lt k (n + length text)) (covers (n + length text) rs k) (covers (n + (length text + count_of rs)) ts k)
covers-append n (Delete target ∷ rs) ts k =
    let e : n + 1 + count_of rs ≡ n + (1 + count_of rs) = omega arith in
    covers-append (n + 1) rs ts k ∙ ap (λ m. covers (n + 1) rs k || covers m ts k) e
covers-append n (DeleteRun first count ∷ rs) ts k =
    let e : n + count + count_of rs ≡ n + (count + count_of rs) = omega arith in
    covers-append (n + count) rs ts k ∙ ap (λ m. covers (n + count) rs k || covers m ts k) e

count_of-last : (rs : List Record) (r : Record) → count_of (rs ++ r ∷ []) ≡ count_of rs + count_in r
count_of-last [] r = omega arith
count_of-last (x ∷ rs) r = let e = count_of-last rs r in omega arith

-- no marks for no records
pub marks-none : (marks : List Bool) (n : ℕ) → IsClear marks → Marks marks n 0 []
marks-none marks n h = record {
  counted = refl;
  each = λ j. nothing j (get_or marks j false);
  rest = λ j le. h j;
} where
  nothing : (j : ℕ) (m : Bool) → false ≡ (nat_lt j 0 && not m)
  nothing j m = grind (arith, nat_tests)

-- a run is not marked
pub marks-insert : (marks : List Bool) (n count : ℕ) (rs : List Record) (after : Place) (text : List ℕ) → Marks marks n count rs
    → Marks marks n (count + length text) (rs ++ Insert after text ∷ [])
marks-insert marks n count rs after text h = record {
  counted = ap (λ m. m + length text) h.counted ∙ sym (count_of-last rs (Insert after text));
  each = λ j.
      covers-append n rs (Insert after text ∷ []) (n + j)
      ∙ ap (λ b. b || covers (n + count_of rs) (Insert after text ∷ []) (n + j)) (h.each j)
      ∙ ap (λ c. (nat_lt j count && not (get_or marks j false)) || covers (n + c) (Insert after text ∷ []) (n + j)) (sym h.counted)
      ∙ grown j count (length text) (get_or marks j false) (h.rest j);
  rest = λ j le. h.rest j (omega (arith, le));
} where
  grown : (j c m : ℕ) (b : Bool) → (c ≤ j → b ≡ false) → ((nat_lt j c && not b) || ((nat_le (n + c) (n + j) && nat_lt (n + j) (n + c + m)) || false)) ≡ (nat_lt j (c + m) && not b)
  grown j c m false f = grind (arith, nat_tests)
  grown j c m true f = elim (truth (nat_lt j c)) [
    | inl low ↦ grind (arith, nat_tests)
    | inr high ↦ absurd (clash (f (grind (arith, nat_tests))))
  ] where
    clash : true ≡ false → ⊥
    clash e = cc

-- a delete is marked
pub marks-delete : (marks : List Bool) (n count : ℕ) (rs : List Record) (target : OpId) → count < length marks → Marks marks n count rs
    → Marks (set marks count true) n (count + 1) (rs ++ Delete target ∷ [])
marks-delete marks n count rs target small h = record {
  counted = ap (λ m. m + 1) h.counted ∙ sym (count_of-last rs (Delete target));
  each = λ j.
      covers-append n rs (Delete target ∷ []) (n + j)
      ∙ ap (λ b. b || false) (h.each j)
      ∙ at j;
  rest = λ j le. get_or-set_other marks count j true false (grind (arith, le)) ∙ h.rest j (omega (arith, le));
} where
  one : (j c : ℕ) (b : Bool) → j ≢ c → ((nat_lt j c && not b) || false) ≡ (nat_lt j (c + 1) && not b)
  one j c b f = grind (arith, nat_tests)

  here : (c : ℕ) (b : Bool) → ((nat_lt c c && not b) || false) ≡ (nat_lt c (c + 1) && not true)
  here c b = grind (arith, nat_tests)

  apart : true ≡ false → ⊥
  apart e = cc

  at : (j : ℕ) → ((nat_lt j count && not (get_or marks j false)) || false) ≡ (nat_lt j (count + 1) && not (get_or (set marks count true) j false))
  at j = elim (truth (j == count)) [
    | inl t ↦ let e : j ≡ count = eqb-true j count t in subst (λ i. ((nat_lt i count && not (get_or marks i false)) || false) ≡ (nat_lt i (count + 1) && not (get_or (set marks count true) i false))) (sym e)
        (here count (get_or marks count false) ∙ ap (λ b. nat_lt count (count + 1) && not b) (sym (get_or-set_same marks count true false small)))
    | inr t ↦ let f : j ≢ count = λ e. apart (sym (eq-eqb j count e) ∙ t) in one j count (get_or marks j false) f ∙ ap (λ b. nat_lt j (count + 1) && not b) (sym (get_or-set_other marks count j true false f))
  ]

-- a run of deletes is marked
pub marks-run : (marks new : List Bool) (n count more : ℕ) (rs : List Record) (first : OpId) → AreSet marks new count (count + more) → Marks marks n count rs
    → Marks new n (count + more) (rs ++ DeleteRun first more ∷ [])
marks-run marks new n count more rs first set h = record {
  counted = ap (λ m. m + more) h.counted ∙ sym (count_of-last rs (DeleteRun first more));
  each = λ j.
      covers-append n rs (DeleteRun first more ∷ []) (n + j)
      ∙ ap (λ b. b || false) (h.each j)
      ∙ at j;
  rest = λ j le. set.above j le ∙ h.rest j (omega (arith, le));
} where
  low : (j c m : ℕ) (b : Bool) → j < c → ((nat_lt j c && not b) || false) ≡ (nat_lt j (c + m) && not b)
  low j c m b lt = grind (arith, nat_tests)

  in_run : (j c m : ℕ) (b : Bool) → c ≤ j → ((nat_lt j c && not b) || false) ≡ (nat_lt j (c + m) && not true)
  in_run j c m b le = grind (arith, nat_tests)

  high : (j c m : ℕ) (b d : Bool) → c + m ≤ j → ((nat_lt j c && not b) || false) ≡ (nat_lt j (c + m) && not d)
  high j c m b d le = grind (arith, nat_tests)

  at : (j : ℕ) → ((nat_lt j count && not (get_or marks j false)) || false) ≡ (nat_lt j (count + more) && not (get_or new j false))
  at j = elim (truth (nat_lt j count)) [
    | inl t ↦
        let lt : j < count = grind (arith, nat_tests) in
        low j count more (get_or marks j false) lt ∙ ap (λ b. nat_lt j (count + more) && not b) (sym (set.below j lt))
    | inr f ↦
        let le : count ≤ j = grind (arith, nat_tests) in
        elim (truth (nat_lt j (count + more))) [
          | inl t ↦
              let lt : j < count + more = grind (arith, nat_tests) in
              in_run j count more (get_or marks j false) le ∙ ap (λ b. nat_lt j (count + more) && not b) (sym (set.within j le lt))
          | inr g ↦
              let past : count + more ≤ j = grind (arith, nat_tests) in
              high j count more (get_or marks j false) (get_or new j false) past
        ]
  ]

-- marks that were just made are clear
pub clear-replicate : (n : ℕ) → IsClear (replicate n false)
clear-replicate n j = elim (truth (nat_lt j n)) [
  | inl low ↦ get_or-replicate n j false false (grind (arith, nat_tests))
  | inr high ↦ get_or_past (replicate n false) j false (rw (length-replicate n false) (grind (arith, nat_tests)))
]

-- whether a counter after the first is covered
pub marks-at : (marks : List Bool) (n count : ℕ) (rs : List Record) (k : ℕ) → n ≤ k → Marks marks n count rs → covers n rs k ≡ (nat_lt (k - n) count && not (get_or marks (k - n) false))
marks-at marks n count rs k le h =
    let e : k ≡ n + (k - n) = omega arith in
    ap (covers n rs) e ∙ h.each (k - n)

-- after the operations nothing is covered
pub marks-past : (marks : List Bool) (n count : ℕ) (rs : List Record) (k : ℕ) → n ≤ k → count ≤ k - n → Marks marks n count rs → false ≡ covers n rs k
marks-past marks n count rs k le past h = sym (marks-at marks n count rs k le h ∙ none (k - n) count (get_or marks (k - n) false) past) where
  none : (j c : ℕ) (b : Bool) → c ≤ j → (nat_lt j c && not b) ≡ false
  none j c b f = grind (arith, nat_tests)

-- one record more
pub taken : (rs : List Record) (i : ℕ) (r : Record) → i < length rs → r ≡ get_or rs i r → take (i + 1) rs ≡ take i rs ++ r ∷ []
taken rs i r small e = take_more rs i r small ∙ ap (λ x. take i rs ++ x ∷ []) (sym e)

pub counted-more : (rs : List Record) (i : ℕ) (r : Record) → i < length rs → r ≡ get_or rs i r → count_of (take i rs) + count_in r ≤ count_of rs
counted-more rs i r small e =
    let one : count_of (take (i + 1) rs) ≡ count_of (take i rs) + count_in r = ap count_of (taken rs i r small e) ∙ count_of-last (take i rs) r in
    let le : count_of (take (i + 1) rs) ≤ count_of rs = count_of-take rs (i + 1) in
    omega arith
