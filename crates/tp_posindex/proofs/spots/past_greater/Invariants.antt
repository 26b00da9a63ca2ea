use Rattle.std.proofs.Common.{◌<◌, ◌≤◌, length}
use Rattle.std.specs.List.{AllWithin}
use Rattle.tp_opid.specs.Order.{Below}
use Rattle.tp_elements.specs.Came.{element_at}
use Rattle.tp_posindex.specs.Layout.{concat_blocks, block_at, index_at}
use Rattle.tp_posindex.proofs.spots.past_greater.Given as goal

-- what was passed is above the identifier
abbrev pub invariant-loop-block : goal.invariant-loop-block
invariant-loop-block l = (l.block < length l.blocks.blocks → l.offset ≤ length (block_at l.blocks.blocks l.block)) × (index_at l.blocks.blocks l.fn.from.block l.fn.from.offset ≤ index_at l.blocks.blocks l.block l.offset) × AllWithin (λ k. Below l.id (element_at l.entries.items k).id) (concat_blocks l.blocks.blocks) (index_at l.blocks.blocks l.fn.from.block l.fn.from.offset) (index_at l.blocks.blocks l.block l.offset)
