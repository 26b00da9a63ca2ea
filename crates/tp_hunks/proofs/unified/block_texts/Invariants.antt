use Rattle.std.proofs.Common.{◌≡◌, take}
use Rattle.std.specs.List.{flat_map}
use Rattle.std.specs.String.{string_bytes}
use Rattle.tp_hunks.specs.Unified.{block_text}
use Rattle.tp_hunks.proofs.LineLists.{texts}
use Rattle.tp_hunks.proofs.unified.block_texts.Given as goal

-- the text so far is that of the blocks so far
abbrev pub invariant-loop-block : goal.invariant-loop-block
invariant-loop-block l = string_bytes l.text ≡ flat_map (block_text (texts l.old) (texts l.new) l.context l.hunks) (take l.block-index l.blocks)
