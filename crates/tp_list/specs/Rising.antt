-- Lists that rise by an order: sorted, with no member twice.
use Rattle.std.specs.Prelude.{◌≡◌, List, [], ◌∷◌}
use Rattle.std.specs.declared.cmp.Ordering.TheVariants.{Less, Equal, Greater}
use Rattle.std.specs.declared.cmp.Ordering.{Ordering}

-- x is below each member of the list.
abbrev pub IsBelowAll : {X : Type 0} → (X → X → Ordering) → X → List X → Type 0
IsBelowAll cmp x [] = Unit {0}
IsBelowAll cmp x (y ∷ ys) = (cmp x y ≡ Less) × IsBelowAll cmp x ys

-- Each element is below all that are after it.
abbrev pub IsRising : {X : Type 0} → (X → X → Ordering) → List X → Type 0
IsRising cmp [] = Unit {0}
IsRising cmp (x ∷ xs) = IsBelowAll cmp x xs × IsRising cmp xs

-- x at its place by the order, as the answer of the comparison with the first says: once, where it is there already.
abbrev pub put_at : {X : Type 0} → Ordering → X → X → List X → List X → List X
put_at Less x y ys rest = x ∷ y ∷ ys
put_at Equal x y ys rest = y ∷ ys
put_at Greater x y ys rest = y ∷ rest

-- The list with x at its place by the order.
abbrev pub put : {X : Type 0} → (X → X → Ordering) → X → List X → List X
put cmp x [] = x ∷ []
put cmp x (y ∷ ys) = put_at (cmp x y) x y ys (put cmp x ys)

-- The members of the list in rising order, each once.
abbrev pub rising : {X : Type 0} → (X → X → Ordering) → List X → List X
rising cmp [] = []
rising cmp (x ∷ xs) = put cmp x (rising cmp xs)
