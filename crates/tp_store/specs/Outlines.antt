-- What is kept of a layout while the changes are read once more.
use Rattle.std.specs.Prelude.{◌≡◌, length, Result, Ok, Err}
use Rattle.tp_store.specs.declared.error.StoreError.{StoreError}
use Rattle.tp_store.specs.declared.layout.Outline.{Outline}
use Rattle.tp_store.specs.Loading.{SavedLayout}

-- The outline has the identifier, the digest and the number of changes of the layout.
pub record IsOutlineOf (f : Outline) (l : SavedLayout) : Type 0 where
  pub id : l.id ≡ f.header.id
  pub count : length l.pieces ≡ f.header.count
  pub digest : l.digest ≡ f.digest

-- What was returned stands for what the definition gives, or is its refusal.
abbrev pub StandsFor : {X Y : Type 0} → (X → Y → Type 0) → Result X StoreError → Result Y StoreError → Type 0
StandsFor {X} {Y} is (Ok x) given = (y : Y) × (given ≡ Ok y) × is x y
StandsFor {X} {Y} is (Err e) given = given ≡ Err e
