-- What contracts see of a sequence in blocks.
use Rattle.std.specs.Prelude.{◌≡◌, ℕ, List, length}
use Rattle.tp_opid.specs.declared.op_id.OpId.{OpId}
use Rattle.tp_opid.specs.Insert.{Insert}
use Rattle.tp_rga.specs.Shown.{visible_of}
use Rattle.tp_posindex.specs.declared.block_info.BlockInfo.{BlockInfo}
use Rattle.tp_posindex.specs.Layout.{block_at, index_at}

-- the blocks in list order, each with its elements, tombstones among them; the deletes as they came; and how many
-- inserts or deletes take no further memory
pub record BlockState : Type 0 where
  pub blocks : List (List Insert)
  pub removals : List (OpId × OpId)
  pub room : ℕ

-- What is reported of the block numbered p: the index of its first element in the list of all elements, how many it
-- holds, and how many of them nobody deleted.
pub record IsInfoOf (s : BlockState) (p : ℕ) (info : BlockInfo) : Type 0 where
  pub first : info.first ≡ index_at s.blocks p 0
  pub len : info.len ≡ length (block_at s.blocks p)
  pub visible : info.visible ≡ length (visible_of s.removals (block_at s.blocks p))
