-- Lists by their numbers, where one member is replaced or one is put after the last.
use Rattle.tp_headline.proofs.Common.{◌≡◌, ◌⊎◌, inl, inr, ℕ, zero, suc, List, [], ◌∷◌, ◌++◌, length, map, Some, slice_set, refl, sym, ap, arith, slice_get}

-- what is where a member was replaced
pub slice_get-set_same : {X : Type 0} (xs : List X) (n : ℕ) (x y : X) → slice_get xs n ≡ Some x → slice_get (slice_set xs n y) n ≡ Some y
slice_get-set_same [] n x y e = absurd cc
slice_get-set_same (a ∷ xs) zero x y e = refl
slice_get-set_same (a ∷ xs) (suc n) x y e = slice_get-set_same xs n x y e

-- it is at its number, and the others stay
pub slice_get-set : {X : Type 0} (xs : List X) (n m : ℕ) (y q : X) → slice_get (slice_set xs n y) m ≡ Some q → ((m ≡ n) × (q ≡ y)) ⊎ ((m ≡ n → ⊥) × (slice_get xs m ≡ Some q))
slice_get-set [] n m y q e = absurd cc
slice_get-set (a ∷ xs) zero zero y q e = inl (refl, cc)
slice_get-set (a ∷ xs) zero (suc m) y q e = inr ((λ same. omega arith), e)
slice_get-set (a ∷ xs) (suc n) zero y q e = inr ((λ same. omega arith), e)
slice_get-set (a ∷ xs) (suc n) (suc m) y q e =
    elim (slice_get-set xs n m y q e) [
      | inl w ↦ inl (ap suc w.0, w.1)
      | inr w ↦ inr ((λ same. w.0 (omega arith)), w.1)
    ]

-- a member that was there is the one that was replaced, or stays
pub slice_get-set_either : {X : Type 0} (xs : List X) (n m : ℕ) (x y q : X) → slice_get xs n ≡ Some x → slice_get xs m ≡ Some q
    → ((m ≡ n) × (q ≡ x)) ⊎ (slice_get (slice_set xs n y) m ≡ Some q)
slice_get-set_either [] n m x y q e f = absurd cc
slice_get-set_either (a ∷ xs) zero zero x y q e f = inl (refl, cc)
slice_get-set_either (a ∷ xs) zero (suc m) x y q e f = inr f
slice_get-set_either (a ∷ xs) (suc n) zero x y q e f = inr f
slice_get-set_either (a ∷ xs) (suc n) (suc m) x y q e f =
    elim (slice_get-set_either xs n m x y q e f) [ inl w ↦ inl (ap suc w.0, w.1) | inr w ↦ inr w ]

-- a member that is replaced by itself
pub slice_set-still : {X : Type 0} (xs : List X) (n : ℕ) (x : X) → slice_get xs n ≡ Some x → slice_set xs n x ≡ xs
slice_set-still [] n x e = absurd cc
slice_set-still (a ∷ xs) zero x e = let same : a ≡ x = cc in ap (λ y. y ∷ xs) (sym same)
slice_set-still (a ∷ xs) (suc n) x e = ap (λ l. a ∷ l) (slice_set-still xs n x e)

-- what a function makes of the list is what it makes of the others and of the new member
pub map-slice_set : {X Y : Type 0} (f : X → Y) (xs : List X) (n : ℕ) (x : X) → map f (slice_set xs n x) ≡ slice_set (map f xs) n (f x)
map-slice_set f [] zero x = refl
map-slice_set f [] (suc n) x = refl
map-slice_set f (a ∷ xs) zero x = refl
map-slice_set f (a ∷ xs) (suc n) x = ap (λ l. f a ∷ l) (map-slice_set f xs n x)

-- what is there stays where one is put after it
pub slice_get-left : {X : Type 0} (xs ys : List X) (n : ℕ) (x : X) → slice_get xs n ≡ Some x → slice_get (xs ++ ys) n ≡ Some x
slice_get-left [] ys n x e = absurd cc
slice_get-left (a ∷ xs) ys zero x e = e
slice_get-left (a ∷ xs) ys (suc n) x e = slice_get-left xs ys n x e

-- each is one of the old, or the new one
pub slice_get-push : {X : Type 0} (xs : List X) (y q : X) (m : ℕ) → slice_get (xs ++ y ∷ []) m ≡ Some q → ((m ≡ length xs) × (q ≡ y)) ⊎ (slice_get xs m ≡ Some q)
slice_get-push [] y q zero e = inl (refl, cc)
slice_get-push [] y q (suc m) e = absurd cc
slice_get-push (a ∷ xs) y q zero e = inr e
slice_get-push (a ∷ xs) y q (suc m) e =
    elim (slice_get-push xs y q m e) [ inl w ↦ inl (ap suc w.0, w.1) | inr w ↦ inr w ]
