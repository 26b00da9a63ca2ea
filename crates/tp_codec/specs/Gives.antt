-- What a function returns, against the value or the fault that a definition gives.
use Rattle.std.specs.Prelude.{◌≡◌, Result, Ok, Err}

-- what was returned, seen by view, is what the definition gives
abbrev pub Is : {X Y E : Type 0} → (X → Y) → Result X E → Result Y E → Type 0
Is view (Ok x) given = given ≡ Ok (view x)
Is view (Err e) given = given ≡ Err e

-- the fault is the one that the definition gives, or it is the one that may come besides, as where memory runs out
abbrev pub FailsWith : {Y E : Type 0} → E → E → Result Y E → Type 0
FailsWith besides e given = (e ≡ besides → ⊥) → given ≡ Err e

-- what was returned, seen by view, is what the definition gives, or the fault that may come besides
abbrev pub Gives : {X Y E : Type 0} → E → (X → Y) → Result X E → Result Y E → Type 0
Gives besides view (Ok x) given = given ≡ Ok (view x)
Gives besides view (Err e) given = FailsWith besides e given
