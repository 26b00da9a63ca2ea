-- Membership, and lists that are the same set.
use Rattle.std.specs.Prelude.{◌≡◌, ◌⊎◌, List, [], ◌∷◌}

-- x is a member of the list.
abbrev pub In : {X : Type 0} → X → List X → Type 0
In x [] = ⊥
In x (y ∷ ys) = (x ≡ y) ⊎ In x ys

-- Each member of xs is one of ys.
abbrev pub AllIn : {X : Type 0} → List X → List X → Type 0
AllIn {X} xs ys = (x : X) → In x xs → In x ys

-- The two lists have the same members, so that they stand for one set.
pub record SameMembers {X : Type 0} (xs ys : List X) : Type 0 where
  pub there : (x : X) → In x xs → In x ys
  pub back : (x : X) → In x ys → In x xs
