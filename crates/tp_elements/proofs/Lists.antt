-- Laws on numbers and on lists: look-ups, members, and a list with one put in.
use Rattle.std.proofs.Common.{◌≡◌, ◌⊎◌, inl, inr, ℕ, zero, suc, ◌<◌, ◌≤◌, List, [], ◌∷◌, ◌++◌, length, get_or, insert, map, refl, ap, arith}
use Rattle.tp_list.specs.Members.{In}

-- ---- numbers

-- one number is below another or isn't
pub below_or_not : (k n : ℕ) → (k < n) ⊎ (n ≤ k)
below_or_not k zero = inr (omega arith)
below_or_not zero (suc n) = inl (omega arith)
below_or_not (suc k) (suc n) = elim (below_or_not k n) as (λ _. (suc k < suc n) ⊎ (suc n ≤ suc k)) [ inl h ↦ inl (omega (arith, h)) | inr h ↦ inr (omega (arith, h)) ]

-- a number below the next is below this or is this
pub below_next : (k n : ℕ) → k < suc n → (k < n) ⊎ (k ≡ n)
below_next k zero lt = inr (omega arith)
below_next zero (suc n) lt = inl (omega arith)
below_next (suc k) (suc n) lt = elim (below_next k n (omega arith)) as (λ _. (suc k < suc n) ⊎ (suc k ≡ suc n)) [ inl h ↦ inl (omega (arith, h)) | inr e ↦ inr (ap suc e) ]

-- ---- look-ups

-- what is in the first of two lists
pub get_or-prefix : {X : Type 0} (xs ys : List X) (n : ℕ) (d : X) → n < length xs → get_or (xs ++ ys) n d ≡ get_or xs n d
get_or-prefix [] ys n d h = absurd (omega arith)
get_or-prefix (x ∷ xs) ys zero d h = refl
get_or-prefix (x ∷ xs) ys (suc n) d h = get_or-prefix xs ys n d (omega arith)

-- the last of a list
pub get_or-last : {X : Type 0} (xs : List X) (y : X) (n : ℕ) (d : X) → n ≡ length xs → get_or (xs ++ y ∷ []) n d ≡ y
get_or-last [] y zero d e = refl
get_or-last [] y (suc n) d e = absurd (omega arith)
get_or-last (x ∷ xs) y zero d e = absurd (omega arith)
get_or-last (x ∷ xs) y (suc n) d e = get_or-last xs y n d (omega arith)

-- a look-up within a list doesn't depend on what it gives past the end
pub get_or-any : {X : Type 0} (xs : List X) (i : ℕ) (d e : X) → i < length xs → get_or xs i d ≡ get_or xs i e
get_or-any [] i d e lt = absurd (omega arith)
get_or-any (x ∷ xs) zero d e lt = refl
get_or-any (x ∷ xs) (suc i) d e lt = get_or-any xs i d e (omega arith)

-- a look-up in a map
pub get_or-of_map : {X Y : Type 0} (f : X → Y) (xs : List X) (i : ℕ) (d : Y) (e : X) → i < length xs → get_or (map f xs) i d ≡ f (get_or xs i e)
get_or-of_map f [] i d e lt = absurd (omega arith)
get_or-of_map f (x ∷ xs) zero d e lt = refl
get_or-of_map f (x ∷ xs) (suc i) d e lt = get_or-of_map f xs i d e (omega arith)

-- ---- a list with one put in

-- it has one more
pub length-inserted : {X : Type 0} (xs : List X) (i : ℕ) (x : X) → length (insert xs i x) ≡ suc (length xs)
length-inserted xs zero x = refl
length-inserted [] (suc i) x = refl
length-inserted (y ∷ xs) (suc i) x = ap suc (length-inserted xs i x)

-- a member of a list with one put in is that, or was there
pub In-insert : {X : Type 0} (xs : List X) (i : ℕ) (v x : X) → In x (insert xs i v) → (x ≡ v) ⊎ In x xs
In-insert xs zero v x (inl e) = inl e
In-insert xs zero v x (inr j) = inr j
In-insert [] (suc i) v x (inl e) = inl e
In-insert [] (suc i) v x (inr j) = absurd j
In-insert (y ∷ xs) (suc i) v x (inl e) = inr (inl e)
In-insert (y ∷ xs) (suc i) v x (inr j) =
    elim (In-insert xs i v x j) as (λ _. (x ≡ v) ⊎ In x (y ∷ xs)) [ inl e ↦ inl e | inr k ↦ inr (inr k) ]

-- what was put in is there
pub In-inserted : {X : Type 0} (xs : List X) (i : ℕ) (v : X) → In v (insert xs i v)
In-inserted xs zero v = inl refl
In-inserted [] (suc i) v = inl refl
In-inserted (y ∷ xs) (suc i) v = inr (In-inserted xs i v)

-- what was there is there still
pub In-insert_still : {X : Type 0} (xs : List X) (i : ℕ) (v x : X) → In x xs → In x (insert xs i v)
In-insert_still xs zero v x j = inr j
In-insert_still [] (suc i) v x j = absurd j
In-insert_still (y ∷ xs) (suc i) v x (inl e) = inl e
In-insert_still (y ∷ xs) (suc i) v x (inr j) = inr (In-insert_still xs i v x j)
