-- Laws of membership, and of lists with the same members.
use Rattle.std.proofs.Common.{◌≡◌, ◌⊎◌, inl, inr, List, [], ◌∷◌, ◌++◌, refl, ℕ, zero, suc, Some, slice_get, subst, take, drop, take-append-drop, ◌<◌, length, arith, sym, ap, get_or, Bool, true, false, cond, filter, ◌∙◌}
use Rattle.std.specs.Prelude.{insert}
use Rattle.std.specs.List.{All}
use Rattle.tp_list.specs.Members.{In, SameMembers}

-- a member of the prefix
pub In-left : {X : Type 0} (x : X) (xs ys : List X) → In x xs → In x (xs ++ ys)
In-left x [] ys h = absurd h
In-left x (z ∷ xs) ys (inl h) = inl h
In-left x (z ∷ xs) ys (inr h) = inr (In-left x xs ys h)

-- a member of the rest
pub In-right : {X : Type 0} (x : X) (xs ys : List X) → In x ys → In x (xs ++ ys)
In-right x [] ys h = h
In-right x (z ∷ xs) ys h = inr (In-right x xs ys h)

-- a member of two lists joined is one of either
pub In-append : {X : Type 0} (x : X) (xs ys : List X) → In x (xs ++ ys) → In x xs ⊎ In x ys
In-append x [] ys h = inr h
In-append x (z ∷ xs) ys (inl h) = inl (inl h)
In-append x (z ∷ xs) ys (inr h) =
    elim (In-append x xs ys h) as (λ _. In x (z ∷ xs) ⊎ In x ys) [ inl k ↦ inl (inr k) | inr k ↦ inr k ]

-- the list with one more at its end
pub In-push : {X : Type 0} (x : X) (xs : List X) (y : X) → In x (xs ++ y ∷ []) → In x xs ⊎ (x ≡ y)
In-push x xs y h =
    elim (In-append x xs (y ∷ []) h) as (λ _. In x xs ⊎ (x ≡ y)) [
      | inl k ↦ inl k
      | inr (inl k) ↦ inr k
      | inr (inr k) ↦ absurd k
    ]

-- the last is a member
pub In-last : {X : Type 0} (x : X) (xs : List X) → In x (xs ++ x ∷ [])
In-last x xs = In-right x xs (x ∷ []) (inl refl)

-- that two lists have the same members holds the other way round
pub SameMembers-sym : {X : Type 0} (xs ys : List X) → SameMembers xs ys → SameMembers ys xs
SameMembers-sym xs ys same = record { there = same.back; back = same.there }

-- what is at a place is a member
pub In-slice_get : {X : Type 0} (xs : List X) (k : ℕ) (x : X) → slice_get xs k ≡ Some x → In x xs
In-slice_get [] k x e = cc
In-slice_get (y ∷ xs) zero x e = inl cc
In-slice_get (y ∷ xs) (suc k) x e = inr (In-slice_get xs k x e)

pub SameMembers-refl : {X : Type 0} (xs : List X) → SameMembers xs xs
SameMembers-refl xs = record { there = λ x h. h; back = λ x h. h }

pub SameMembers-trans : {X : Type 0} (xs ys zs : List X) → SameMembers xs ys → SameMembers ys zs → SameMembers xs zs
SameMembers-trans xs ys zs p q = record { there = λ x h. q.there x (p.there x h); back = λ x h. p.back x (q.back x h) }

pub SameMembers-append : {X : Type 0} (xs ys zs : List X) → SameMembers xs ys → SameMembers (xs ++ zs) (ys ++ zs)
SameMembers-append xs ys zs p = record {
  there = λ x h. elim (In-append x xs zs h) [ inl a ↦ In-left x ys zs (p.there x a) | inr b ↦ In-right x ys zs b ];
  back = λ x h. elim (In-append x ys zs h) [ inl a ↦ In-left x xs zs (p.back x a) | inr b ↦ In-right x xs zs b ];
}

SameMembers-between : {X : Type 0} (A B : List X) (y : X) → SameMembers ((A ++ B) ++ y ∷ []) (A ++ y ∷ B)
SameMembers-between {X} A B y = record {
  there = λ x h. elim (In-push x (A ++ B) y h) [
    | inl old ↦ elim (In-append x A B old) [ inl a ↦ In-left x A (y ∷ B) a | inr b ↦ In-right x A (y ∷ B) (inr b) ]
    | inr new ↦ In-right x A (y ∷ B) (inl new)
  ];
  back = λ x h. elim (In-append x A (y ∷ B) h) [
    | inl a ↦ In-left x (A ++ B) (y ∷ []) (In-left x A B a)
    | inr (inl new) ↦ In-right x (A ++ B) (y ∷ []) (inl new)
    | inr (inr b) ↦ In-left x (A ++ B) (y ∷ []) (In-right x A B b)
  ];
}

-- an element put in somewhere is a member more
pub SameMembers-insert : {X : Type 0} (xs : List X) (i : ℕ) (y : X) → SameMembers (xs ++ y ∷ []) (insert xs i y)
SameMembers-insert xs i y = subst (λ l. SameMembers (l ++ y ∷ []) (take i xs ++ y ∷ drop i xs)) (take-append-drop i xs) (SameMembers-between (take i xs) (drop i xs) y)

-- the last put first
pub SameMembers-last : {X : Type 0} (S : List X) (e : X) → SameMembers (e ∷ S) (S ++ e ∷ [])
SameMembers-last S e = record {
  there = λ x h. elim h [ inl a ↦ In-right x S (e ∷ []) (inl a) | inr b ↦ In-left x S (e ∷ []) b ];
  back = λ x h. elim (In-append x S (e ∷ []) h) [ inl b ↦ inr b | inr (inl a) ↦ inl a | inr (inr none) ↦ absurd none ];
}

pub slice_get-there : {X : Type 0} (xs : List X) (m : ℕ) → m < length xs → (x : X) × (slice_get xs m ≡ Some x)
slice_get-there [] m h = absurd (omega arith)
slice_get-there (x ∷ xs) zero h = (x, refl)
slice_get-there (x ∷ xs) (suc m) h = slice_get-there xs m (omega arith)

pub In-split : {X : Type 0} (x : X) (xs : List X) → In x xs → (A : List X) × (B : List X) × (xs ≡ A ++ x ∷ B)
In-split x [] i = absurd i
In-split x (y ∷ xs) (inl e) = ([], xs, ap (λ z. z ∷ xs) (sym e))
In-split x (y ∷ xs) (inr i) = let w = In-split x xs i in (y ∷ w.0, w.1, ap (λ l. y ∷ l) w.2)

-- a member is at some index
pub In-index : {X : Type 0} (x : X) (xs : List X) → In x xs → (k : ℕ) × (k < length xs) × ((d : X) → get_or xs k d ≡ x)
In-index x [] i = absurd i
In-index x (y ∷ xs) (inl e) = (zero, omega arith, λ d. sym e)
In-index x (y ∷ xs) (inr i) = let r = In-index x xs i in (suc r.0, omega (arith, r.1), r.2)

-- what is at an index is a member
pub In-get_or : {X : Type 0} (xs : List X) (k : ℕ) (d : X) → k < length xs → In (get_or xs k d) xs
In-get_or [] k d h = absurd (omega arith)
In-get_or (x ∷ xs) zero d h = inl refl
In-get_or (x ∷ xs) (suc k) d h = inr (In-get_or xs k d (omega arith))

-- what holds at each index holds of each member
pub All-member : {X : Type 0} (P : X → Type 0) (xs : List X) → All P xs → (x : X) → In x xs → P x
All-member P xs all x i = let r = In-index x xs i in subst P (r.2 x) (all r.0 x r.1)

-- what is between two parts is a member
pub In-middle : {X : Type 0} (A : List X) (e : X) (B : List X) → In e (A ++ e ∷ B)
In-middle [] e B = inl refl
In-middle (x ∷ A) e B = inr (In-middle A e B)

-- what a filter keeps is a member that passes
pub In-filter : {X : Type 0} (p : X → Bool) (xs : List X) (x : X) → In x (filter p xs) → In x xs × (p x ≡ true)
In-filter p [] x i = absurd i
In-filter p (y ∷ xs) x i =
    elim (p y) as (λ b. p y ≡ b → In x (cond b (y ∷ filter p xs) (filter p xs)) → In x (y ∷ xs) × (p x ≡ true)) [
      | true ↦ λ e j. elim j as (λ _. In x (y ∷ xs) × (p x ≡ true)) [
        | inl k ↦ (inl k, ap p k ∙ e)
        | inr k ↦ let r = In-filter p xs x k in (inr r.0, r.1)
      ]
      | false ↦ λ e j. let r = In-filter p xs x j in (inr r.0, r.1)
    ] refl i

-- a member that passes is kept
pub filter-In : {X : Type 0} (p : X → Bool) (xs : List X) (x : X) → In x xs → p x ≡ true → In x (filter p xs)
filter-In p [] x i e = absurd i
filter-In p (y ∷ xs) x (inl i) e = subst (λ b. In x (cond b (y ∷ filter p xs) (filter p xs))) (sym (sym (ap p i) ∙ e)) (inl i)
filter-In p (y ∷ xs) x (inr i) e =
    let rest = filter-In p xs x i e in
    elim (p y) as (λ b. In x (cond b (y ∷ filter p xs) (filter p xs))) [ true ↦ inr rest | false ↦ rest ]
