-- The one list of all elements.
use Rattle.std.specs.Prelude.{◌≡◌, ℕ, List, map}
use Rattle.tp_world.specs.Common.{ChangeParts}
use Rattle.tp_opid.specs.declared.op_id.OpId.{OpId}
use Rattle.tp_opid.specs.Insert.{Insert}
use Rattle.tp_change.specs.Elements.{inserts}
use Rattle.tp_rga.specs.Order.{IsInOrder}

-- each element as its identifier and its character
abbrev pub pairs_of : List Insert → List (OpId × ℕ)
pairs_of L = map (λ (e : Insert). (e.id, e.ch)) L

-- The pairs are those of the one list of all elements that the changes insert.
pub record IsOneList (made : List ChangeParts) (pairs : List (OpId × ℕ)) : Type 0 where
  pub elements : List Insert
  pub order : IsInOrder (inserts made) elements
  pub shown : pairs ≡ pairs_of elements
