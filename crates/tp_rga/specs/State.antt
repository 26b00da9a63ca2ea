-- What contracts see of a sequence that is kept in memory.
use Rattle.std.specs.Prelude.{ℕ, List}
use Rattle.tp_opid.specs.declared.op_id.OpId.{OpId}
use Rattle.tp_opid.specs.Insert.{Insert}

-- the elements in order, tombstones among them; the deletes as they came; and how many inserts or deletes take no
-- further memory
pub record State : Type 0 where
  pub placed : List Insert
  pub removals : List (OpId × OpId)
  pub room : ℕ
