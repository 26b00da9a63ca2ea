-- What contracts see of changes and their ancestry.
use Rattle.std.specs.Prelude.{List, Option}
use Rattle.tp_ancestry.specs.Common.{Hash, ChangeParts}

-- The changes, in the order in which they entered, and the hash of the change for whose entry there is room, if
-- there is one.
pub record AncestryState : Type 0 where
  pub changes : List ChangeParts
  pub room : Option Hash
