-- Laws on lists of views: numbers added up over them, and the seats in them.
use Rattle.tp_served.proofs.Common.{◌≡◌, ◌≢◌, inl, inr, ℕ, zero, suc, ◌+◌, ◌<◌, ◌≤◌, eqb, eq-eqb, ne_eqb, cond, Bool, true, false, List, [], ◌∷◌, ◌++◌, length, set, take, drop, refl, sym, ap, ◌∙◌, subst, arith, In, ChangeParts, PeerState, SeatKnowledge, fresh_from, AllSeatsFit, SeatFits, ViewState, times, total}
use mathlib.Core.Logic.{dite}
use native.Mathlib.Decide.{ℕ_discrete}
use mathlib.Core.Option.{some, some-injective, some-ne-none}
use lib.ListN.{get_elem?}
use Rattle.tp_served.proofs.ListLaws.{begins_same}

-- ---- places

pub at_below : {A : Type 0} (l : List A) (i : ℕ) (a : A) → get_elem? l i ≡ some a → i < length l
at_below [] i a e = absurd (some-ne-none a (sym e))
at_below (x ∷ xs) zero a e = omega arith
at_below (x ∷ xs) (suc i) a e = let h = at_below xs i a e in omega arith

pub at_one : {A : Type 0} (x a : A) (j : ℕ) → get_elem? (x ∷ []) j ≡ some a → x ≡ a
at_one x a zero e = some-injective x a e
at_one x a (suc j) e = absurd (some-ne-none a (sym e))

-- ---- numbers added up

pub total-set : (f : ViewState → ℕ) (vs : List ViewState) (j : ℕ) (v w : ViewState) → get_elem? vs j ≡ some v → total f (set vs j w) + f v ≡ total f vs + f w
total-set f [] j v w e = absurd (some-ne-none v (sym e))
total-set f (x ∷ xs) zero v w e = let s : f x ≡ f v = ap f (some-injective x v e) in omega arith
total-set f (x ∷ xs) (suc j) v w e = let s = total-set f xs j v w e in omega arith

pub total-push : (f : ViewState → ℕ) (vs : List ViewState) (w : ViewState) → total f (vs ++ w ∷ []) ≡ total f vs + f w
total-push f [] w = omega arith
total-push f (x ∷ xs) w = let s = total-push f xs w in omega arith

part_le : (f : ViewState → ℕ) (vs : List ViewState) (j : ℕ) (v : ViewState) → get_elem? vs j ≡ some v → f v ≤ total f vs
part_le f [] j v e = absurd (some-ne-none v (sym e))
part_le f (x ∷ xs) zero v e = let s : f x ≡ f v = ap f (some-injective x v e) in omega arith
part_le f (x ∷ xs) (suc j) v e = let s = part_le f xs j v e in omega arith

-- two views have no more than all
pub two_le : (f : ViewState → ℕ) (vs : List ViewState) (i j : ℕ) (v u : ViewState) → j ≢ i → get_elem? vs i ≡ some v → get_elem? vs j ≡ some u → f v + f u ≤ total f vs
two_le f [] i j v u other e d = absurd (some-ne-none v (sym e))
two_le f (x ∷ xs) zero zero v u other e d = absurd (other refl)
two_le f (x ∷ xs) zero (suc j) v u other e d = let s : f x ≡ f v = ap f (some-injective x v e) in let p = part_le f xs j u d in omega arith
two_le f (x ∷ xs) (suc i) zero v u other e d = let s : f x ≡ f u = ap f (some-injective x u d) in let p = part_le f xs i v e in omega arith
two_le f (x ∷ xs) (suc i) (suc j) v u other e d = let s = two_le f xs i j v u (λ h. other (ap suc h)) e d in omega arith

-- what is less in each view is less in all
pub total_le : (f g : ViewState → ℕ) (vs : List ViewState) → ((v : ViewState) → f v ≤ g v) → total f vs ≤ total g vs
total_le f g [] less = omega arith
total_le f g (x ∷ xs) less = let s = total_le f g xs less in let h = less x in omega arith

-- ---- seats by their numbers

one_more : (b : Bool) (k : ℕ) → k ≤ cond b 1 0 + k
one_more true k = omega arith
one_more false k = omega arith

at_most_one : (b : Bool) → cond b 1 0 ≤ 1
at_most_one true = omega arith
at_most_one false = omega arith

pub times-append : (n : ℕ) (ts us : List SeatKnowledge) → times n (ts ++ us) ≡ times n ts + times n us
times-append n [] us = omega arith
times-append n (t ∷ ts) us = let s = times-append n ts us in let x : ℕ = cond (eqb t.number n) 1 0 in
    let goal : x + times n (ts ++ us) ≡ (x + times n ts) + times n us = omega arith in goal

pub times_le : (n : ℕ) (ts : List SeatKnowledge) → times n ts ≤ length ts
times_le n [] = omega arith
times_le n (t ∷ ts) = let s = times_le n ts in let h = at_most_one (eqb t.number n) in let x : ℕ = cond (eqb t.number n) 1 0 in
    let h' : x ≤ 1 = h in let goal : x + times n ts ≤ suc (length ts) = omega arith in goal

-- a seat with the number is counted
pub times_in : (n : ℕ) (ts : List SeatKnowledge) (t : SeatKnowledge) → In t ts → t.number ≡ n → 1 ≤ times n ts
times_in n [] t i e = absurd i
times_in n (u ∷ ts) t (inl d) e =
    let h : cond (eqb u.number n) 1 0 ≡ 1 = ap (λ b. cond b 1 0) (eq-eqb u.number n (sym (ap (λ (x : SeatKnowledge). x.number) d) ∙ e)) in
    let x : ℕ = cond (eqb u.number n) 1 0 in let h' : x ≡ 1 = h in let goal : 1 ≤ x + times n ts = omega arith in goal
times_in n (u ∷ ts) t (inr i) e = let s = times_in n ts t i e in let h = one_more (eqb u.number n) (times n ts) in
    let x : ℕ = cond (eqb u.number n) 1 0 in let h' : times n ts ≤ x + times n ts = h in let goal : 1 ≤ x + times n ts = omega arith in goal

-- ---- fresh seats

pub length_fresh : (p : PeerState) (n k : ℕ) → length (fresh_from p n k) ≡ k
length_fresh p n zero = refl
length_fresh p n (suc k) = let s = length_fresh p (n + 1) k in omega arith

fresh_none : (p : PeerState) (m n k : ℕ) → m < n → times m (fresh_from p n k) ≡ 0
fresh_none p m n zero below = refl
fresh_none p m n (suc k) below = let s = fresh_none p m (n + 1) k (omega arith) in let x : ℕ = cond (eqb n m) 1 0 in
    let h : x ≡ 0 = ap (λ b. cond b 1 0) (ne_eqb n m (λ e. omega arith)) in let goal : x + times m (fresh_from p (n + 1) k) ≡ 0 = omega arith in goal

-- each number of fresh seats is there once
pub fresh_once : (p : PeerState) (m n k : ℕ) → n ≤ m → m < n + k → times m (fresh_from p n k) ≡ 1
fresh_once p m n zero above below = absurd (omega arith)
fresh_once p m n (suc k) above below = let x : ℕ = cond (eqb n m) 1 0 in dite (ℕ_discrete n m)
    (λ e. let s = fresh_none p m (n + 1) k (omega arith) in let h : x ≡ 1 = ap (λ b. cond b 1 0) (eq-eqb n m e) in
    let goal : x + times m (fresh_from p (n + 1) k) ≡ 1 = omega arith in goal)
    (λ ne. let s = fresh_once p m (n + 1) k (omega arith) (omega arith) in let h : x ≡ 0 = ap (λ b. cond b 1 0) (ne_eqb n m ne) in
    let goal : x + times m (fresh_from p (n + 1) k) ≡ 1 = omega arith in goal)

pub fresh_fit : (p : PeerState) (count n k : ℕ) → n + k ≤ count → AllSeatsFit count [] p (fresh_from p n k)
fresh_fit p count n zero most = tt
fresh_fit p count n (suc k) most = (record { number = omega arith; kept = record { seen = begins_same p.applied; link = refl }; mine = refl }, fresh_fit p count (n + 1) k (omega arith))

-- ---- seats that fit

pub AllSeatsFit-in : (count : ℕ) (C : List (ℕ × ChangeParts)) (h : PeerState) (ts : List SeatKnowledge) (t : SeatKnowledge) → AllSeatsFit count C h ts → In t ts → SeatFits count C h t
AllSeatsFit-in count C h [] t all i = absurd i
AllSeatsFit-in count C h (u ∷ ts) t all (inl e) = subst (SeatFits count C h) (sym e) all.0
AllSeatsFit-in count C h (u ∷ ts) t all (inr i) = AllSeatsFit-in count C h ts t all.1 i

pub AllSeatsFit-map : (count : ℕ) (C D : List (ℕ × ChangeParts)) (h g : PeerState) (ts : List SeatKnowledge) → ((t : SeatKnowledge) → In t ts → SeatFits count C h t → SeatFits count D g t) → AllSeatsFit count C h ts → AllSeatsFit count D g ts
AllSeatsFit-map count C D h g [] f all = tt
AllSeatsFit-map count C D h g (t ∷ ts) f all = (f t (inl refl) all.0, AllSeatsFit-map count C D h g ts (λ u i. f u (inr i)) all.1)

pub AllSeatsFit-append : (count : ℕ) (C : List (ℕ × ChangeParts)) (h : PeerState) (ts us : List SeatKnowledge) → AllSeatsFit count C h ts → AllSeatsFit count C h us → AllSeatsFit count C h (ts ++ us)
AllSeatsFit-append count C h [] us a b = b
AllSeatsFit-append count C h (t ∷ ts) us a b = (a.0, AllSeatsFit-append count C h ts us a.1 b)

pub AllSeatsFit-split : (count : ℕ) (C : List (ℕ × ChangeParts)) (h : PeerState) (ts us : List SeatKnowledge) → AllSeatsFit count C h (ts ++ us) → AllSeatsFit count C h ts × AllSeatsFit count C h us
AllSeatsFit-split count C h [] us all = (tt, all)
AllSeatsFit-split count C h (t ∷ ts) us all = let r = AllSeatsFit-split count C h ts us all.1 in ((all.0, r.0), r.1)

-- ---- the first seat and the others

pub times_parted : (n : ℕ) (ts : List SeatKnowledge) → times n (take 1 ts) + times n (drop 1 ts) ≡ times n ts
times_parted n [] = refl
times_parted n (t ∷ ts) = let x : ℕ = cond (eqb t.number n) 1 0 in let goal : (x + 0) + times n ts ≡ x + times n ts = omega arith in goal

pub length_parted : (ts : List SeatKnowledge) → length (take 1 ts) + length (drop 1 ts) ≡ length ts
length_parted [] = refl
length_parted (t ∷ ts) = omega arith
