-- Flags of a list: what they leave of it, and where.
use Rattle.std.proofs.Common.{◌≡◌, ℕ, zero, suc, ◌≤◌, Bool, true, false, not, cond, Some, None, List, [], ◌∷◌, length, take, get_or, insert, filter, map, slice_get, refl, sym, ap, subst, arith, inl, inr}
use Rattle.tp_list.specs.Members.{In}

-- a map of a list with one more element put in
pub map-insert : {X Y : Type 0} (f : X → Y) (L : List X) (i : ℕ) (x : X) → map f (insert L i x) ≡ insert (map f L) i (f x)
map-insert f L zero x = refl
map-insert f [] (suc i) x = refl
map-insert f (y ∷ L) (suc i) x = ap (λ z. f y ∷ z) (map-insert f L i x)

-- what passes goes up by one where the new element passes
pub length-filter-insert : {X : Type 0} (p : X → Bool) (L : List X) (i : ℕ) (x : X) → p x ≡ true → length (filter p (insert L i x)) ≡ suc (length (filter p L))
length-filter-insert p L zero x e = ap (λ b. length (cond b (x ∷ filter p L) (filter p L))) e
length-filter-insert p [] (suc i) x e = ap (λ b. length (cond b (x ∷ []) [])) e
length-filter-insert p (y ∷ L) (suc i) x e =
    elim (p y) as (λ b. length (cond b (y ∷ filter p (insert L i x)) (filter p (insert L i x))) ≡ suc (length (cond b (y ∷ filter p L) (filter p L)))) [
      | true ↦ ap suc (length-filter-insert p L i x e)
      | false ↦ length-filter-insert p L i x e
    ]

-- two functions that agree on the members give one list
pub map_agree : {X Y : Type 0} (f g : X → Y) (L : List X) → ((x : X) → In x L → f x ≡ g x) → map f L ≡ map g L
map_agree f g [] same = refl
map_agree f g (x ∷ L) same =
    let here = same x (inl refl) in let rest = map_agree f g L (λ y i. same y (inr i)) in cc

-- two tests that agree on the members keep the same
pub filter_agree_in : {X : Type 0} (p q : X → Bool) (L : List X) → ((x : X) → In x L → p x ≡ q x) → filter p L ≡ filter q L
filter_agree_in p q [] same = refl
filter_agree_in p q (x ∷ L) same =
    let here = same x (inl refl) in let rest = filter_agree_in p q L (λ y i. same y (inr i)) in cc

-- as many flags are down as elements are left
pub length-left : {X : Type 0} (f : X → Bool) (L : List X) → length (filter not (map f L)) ≡ length (filter (λ x. not (f x)) L)
length-left f [] = refl
length-left f (x ∷ L) =
    elim (not (f x)) as (λ b. length (cond b (f x ∷ filter not (map f L)) (filter not (map f L))) ≡ length (cond b (x ∷ filter (λ y. not (f y)) L) (filter (λ y. not (f y)) L))) [
      | true ↦ ap suc (length-left f L)
      | false ↦ length-left f L
    ]

-- the element whose flag is down, after as many that are left, has that place among what is left
pub slice_get-left : {X : Type 0} (f : X → Bool) (L : List X) (k : ℕ) (x : X) → slice_get (map f L) k ≡ Some false → x ≡ get_or L k x → slice_get (filter (λ y. not (f y)) L) (length (filter not (take k (map f L)))) ≡ Some x
slice_get-left f [] k x down here = let e : None ≡ Some false = down in cc
slice_get-left f (y ∷ L) zero x down here =
    let e : f y ≡ false = cc in
    subst (λ b. slice_get (cond (not b) (y ∷ filter (λ z. not (f z)) L) (filter (λ z. not (f z)) L)) 0 ≡ Some x) (sym e) (ap Some (sym here))
slice_get-left f (y ∷ L) (suc k) x down here =
    let rest = slice_get-left f L k x down here in
    elim (not (f y)) as (λ b. slice_get (cond b (y ∷ filter (λ z. not (f z)) L) (filter (λ z. not (f z)) L)) (length (cond b (f y ∷ filter not (take k (map f L))) (filter not (take k (map f L))))) ≡ Some x) [
      | true ↦ rest
      | false ↦ rest
    ]

-- nothing is past the end
pub slice_get-past : {X : Type 0} (L : List X) (i : ℕ) → length L ≤ i → slice_get L i ≡ None
slice_get-past [] i h = refl
slice_get-past (x ∷ L) zero h = absurd (omega arith)
slice_get-past (x ∷ L) (suc i) h = slice_get-past L i (omega arith)

-- a prefix of a map
pub take-map_lem : {X Y : Type 0} (f : X → Y) (k : ℕ) (L : List X) → take k (map f L) ≡ map f (take k L)
take-map_lem f zero L = refl
take-map_lem f (suc k) [] = refl
take-map_lem f (suc k) (x ∷ L) = ap (λ z. f x ∷ z) (take-map_lem f k L)
