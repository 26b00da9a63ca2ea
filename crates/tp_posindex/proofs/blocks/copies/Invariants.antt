use Rattle.std.proofs.Common.{◌≡◌, take}
use Rattle.tp_posindex.proofs.blocks.copies.Given as goal

-- the blocks that were passed are copied
abbrev pub invariant-loop-block : goal.invariant-loop-block
invariant-loop-block l = l.copy.items ≡ take l.block-index l.pool
