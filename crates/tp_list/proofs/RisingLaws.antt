-- Laws of rising lists under a total and exact order.
use Rattle.std.proofs.Common.{◌≡◌, ◌⊎◌, inl, inr, List, [], ◌∷◌, refl, sym, ap, ◌∙◌, subst, true}
use Rattle.std.specs.Ordering.{ordering_reverse, is_lt}
use Rattle.std.specs.declared.cmp.Ordering.{Ordering}
use Rattle.std.specs.declared.cmp.Ordering.TheVariants.{Less, Equal, Greater}
use Rattle.std.specs.Cmp.{IsTotalOrder}
use Rattle.std.proofs.lemmas.Cmp.{tied_itself}
use Rattle.std.proofs.lemmas.Map.Lookups.{CmpEqualImpliesEq}
use Rattle.tp_list.specs.Members.{In, AllIn}
use Rattle.tp_list.specs.Rising.{IsBelowAll, IsRising, put_at, put, rising}

-- ---- members

pub put-In : {X : Type 0} (cmp : X → X → Ordering) (z x : X) (xs : List X) → In z (put cmp x xs) → (z ≡ x) ⊎ In z xs
put-In cmp z x [] (inl e) = inl e
put-In cmp z x [] (inr i) = absurd i
put-In cmp z x (y ∷ ys) i =
    elim (cmp x y) as (λ o. In z (put_at o x y ys (put cmp x ys)) → (z ≡ x) ⊎ In z (y ∷ ys)) [
      | Less ↦ λ j. elim j [ inl e ↦ inl e | inr k ↦ inr k ]
      | Equal ↦ λ j. inr j
      | Greater ↦ λ j. elim j [ inl e ↦ inr (inl e) | inr k ↦ elim (put-In cmp z x ys k) [ inl e ↦ inl e | inr m ↦ inr (inr m) ] ]
    ] i

pub In-put_other : {X : Type 0} (cmp : X → X → Ordering) (z x : X) (xs : List X) → In z xs → In z (put cmp x xs)
In-put_other cmp z x [] i = absurd i
In-put_other cmp z x (y ∷ ys) i =
    elim (cmp x y) as (λ o. In z (put_at o x y ys (put cmp x ys))) [
      | Less ↦ inr i
      | Equal ↦ i
      | Greater ↦ elim i [ inl e ↦ inl e | inr k ↦ inr (In-put_other cmp z x ys k) ]
    ]

pub In-put : {X : Type 0} (cmp : X → X → Ordering) → CmpEqualImpliesEq cmp → (x : X) (xs : List X) → In x (put cmp x xs)
In-put cmp exact x [] = inl refl
In-put cmp exact x (y ∷ ys) =
    elim (cmp x y) as (λ o. cmp x y ≡ o → In x (put_at o x y ys (put cmp x ys))) [
      | Less ↦ λ e. inl refl
      | Equal ↦ λ e. inl (exact x y e)
      | Greater ↦ λ e. inr (In-put cmp exact x ys)
    ] refl

pub rising-In : {X : Type 0} (cmp : X → X → Ordering) (z : X) (xs : List X) → In z (rising cmp xs) → In z xs
rising-In cmp z [] i = i
rising-In cmp z (x ∷ xs) i = elim (put-In cmp z x (rising cmp xs) i) [ inl e ↦ inl e | inr k ↦ inr (rising-In cmp z xs k) ]

pub In-rising : {X : Type 0} (cmp : X → X → Ordering) → CmpEqualImpliesEq cmp → (z : X) (xs : List X) → In z xs → In z (rising cmp xs)
In-rising cmp exact z [] i = i
In-rising cmp exact z (x ∷ xs) (inl e) = rw e (In-put cmp exact x (rising cmp xs))
In-rising cmp exact z (x ∷ xs) (inr i) = In-put_other cmp z x (rising cmp xs) (In-rising cmp exact z xs i)

-- ---- order

pub IsBelowAll-trans : {X : Type 0} (cmp : X → X → Ordering) → IsTotalOrder cmp → (x y : X) (ys : List X) → cmp x y ≡ Less → IsBelowAll cmp y ys → IsBelowAll cmp x ys
IsBelowAll-trans cmp total x y [] h b = tt
IsBelowAll-trans cmp total x y (z ∷ zs) h b = (total.trans x y z h b.0, IsBelowAll-trans cmp total x y zs h b.1)

pub IsBelowAll-put : {X : Type 0} (cmp : X → X → Ordering) (w x : X) (xs : List X) → cmp w x ≡ Less → IsBelowAll cmp w xs → IsBelowAll cmp w (put cmp x xs)
IsBelowAll-put cmp w x [] h b = (h, tt)
IsBelowAll-put cmp w x (y ∷ ys) h b =
    elim (cmp x y) as (λ o. IsBelowAll cmp w (put_at o x y ys (put cmp x ys))) [
      | Less ↦ (h, b)
      | Equal ↦ b
      | Greater ↦ (b.0, IsBelowAll-put cmp w x ys h b.1)
    ]

pub put-rises : {X : Type 0} (cmp : X → X → Ordering) → IsTotalOrder cmp → (x : X) (xs : List X) → IsRising cmp xs → IsRising cmp (put cmp x xs)
put-rises cmp total x [] r = (tt, tt)
put-rises cmp total x (y ∷ ys) r =
    let back : cmp y x ≡ ordering_reverse (cmp x y) = total.antisymm y x in
    elim (cmp x y) as (λ o. cmp x y ≡ o → cmp y x ≡ ordering_reverse o → IsRising cmp (put_at o x y ys (put cmp x ys))) [
      | Less ↦ λ e b. ((e, IsBelowAll-trans cmp total x y ys e r.0), r)
      | Equal ↦ λ e b. r
      | Greater ↦ λ e b. (IsBelowAll-put cmp y x ys b r.0, put-rises cmp total x ys r.1)
    ] refl back

pub rising-rises : {X : Type 0} (cmp : X → X → Ordering) → IsTotalOrder cmp → (xs : List X) → IsRising cmp (rising cmp xs)
rising-rises cmp total [] = tt
rising-rises cmp total (x ∷ xs) = put-rises cmp total x (rising cmp xs) (rising-rises cmp total xs)

pub below-In : {X : Type 0} (cmp : X → X → Ordering) (x z : X) (ys : List X) → IsBelowAll cmp x ys → In z ys → cmp x z ≡ Less
below-In cmp x z [] b i = absurd i
below-In cmp x z (y ∷ ys) b (inl e) = rw e b.0
below-In cmp x z (y ∷ ys) b (inr i) = below-In cmp x z ys b.1 i

-- nothing is below itself
pub less_itself : {X : Type 0} {A : Type 0} (cmp : X → X → Ordering) → IsTotalOrder cmp → (x : X) → cmp x x ≡ Less → A
less_itself cmp total x h = let e : cmp x x ≡ Equal = tied_itself total x in cc

same_first : {X : Type 0} (cmp : X → X → Ordering) → IsTotalOrder cmp → (x y : X) (xs ys : List X)
    → IsBelowAll cmp x xs → IsBelowAll cmp y ys → In x (y ∷ ys) → In y (x ∷ xs) → x ≡ y
same_first cmp total x y xs ys b c (inl e) j = e
same_first cmp total x y xs ys b c (inr i) (inl e) = sym e
same_first cmp total x y xs ys b c (inr i) (inr j) =
    less_itself cmp total x (total.trans x y x (below-In cmp x y xs b j) (below-In cmp y x ys c i))

same_rest : {X : Type 0} (cmp : X → X → Ordering) → IsTotalOrder cmp → (x y z : X) (xs ys : List X)
    → IsBelowAll cmp x xs → x ≡ y → In z xs → In z (y ∷ ys) → In z ys
same_rest cmp total x y z xs ys b e i (inl k) =
    less_itself cmp total x (subst (λ w. cmp x w ≡ Less) (k ∙ sym e) (below-In cmp x z xs b i))
same_rest cmp total x y z xs ys b e i (inr k) = k

-- two lists that rise by one order and have the same members are one
pub one_list : {X : Type 0} (cmp : X → X → Ordering) → IsTotalOrder cmp → (xs ys : List X) → IsRising cmp xs → IsRising cmp ys → AllIn xs ys → AllIn ys xs → xs ≡ ys
one_list cmp total [] [] r s f g = refl
one_list cmp total [] (y ∷ ys) r s f g = absurd (g y (inl refl))
one_list cmp total (x ∷ xs) [] r s f g = absurd (f x (inl refl))
one_list cmp total (x ∷ xs) (y ∷ ys) r s f g =
    let e = same_first cmp total x y xs ys r.0 s.0 (f x (inl refl)) (g y (inl refl)) in
    let rest =
    one_list cmp total xs ys r.1 s.1
    (λ z i. same_rest cmp total x y z xs ys r.0 e i (f z (inr i)))
    (λ z i. same_rest cmp total y x z ys xs s.0 (sym e) i (g z (inr i))) in
    ap (λ w. w ∷ xs) e ∙ ap (λ l. y ∷ l) rest

-- a test for Less, read
pub less_of : (o : Ordering) → is_lt o ≡ true → o ≡ Less
less_of Less h = refl
less_of Equal h = cc
less_of Greater h = cc
