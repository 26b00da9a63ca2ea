-- An element of the sequence, as the insert that makes it.
use Rattle.std.specs.Prelude.{ℕ}
use Rattle.tp_opid.specs.declared.op_id.OpId.{OpId}
use Rattle.tp_opid.specs.declared.op_id.Place.{Place}

-- the identifier, the reference after which it is inserted, and the character
pub record Insert : Type 0 where
  pub id : OpId
  pub after : Place
  pub ch : ℕ
