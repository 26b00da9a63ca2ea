use Rattle.std.proofs.Common.{◌≡◌, ◌+◌, ◌++◌, drop}
use Rattle.tp_hunks.specs.Unified.{blocks_from, blocks_of}
use Rattle.tp_hunks.proofs.unified.blocks_of.Given as goal

-- the blocks so far, and those from the open one on, are all
abbrev pub invariant-loop-hunk : goal.invariant-loop-hunk
invariant-loop-hunk l = record {
  made : l.blocks.items ++ blocks_from l.context l.block (drop l.hunk-index l.hunk-items) ≡ blocks_of l.context l.hunks;
  so_far : l.block.at + l.block.len ≡ l.hunk-index + 1;
}
