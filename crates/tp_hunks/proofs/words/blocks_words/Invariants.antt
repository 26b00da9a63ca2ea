use Rattle.std.proofs.Common.{◌≡◌, map, take}
use Rattle.std.specs.List.{flat_map}
use Rattle.std.specs.String.{string_bytes}
use Rattle.tp_hunks.specs.Words.{block_words, marked_text}
use Rattle.tp_hunks.proofs.words.blocks_words.Given as goal

-- the text so far is that of the blocks so far
abbrev pub invariant-loop-block : goal.invariant-loop-block
invariant-loop-block l = string_bytes l.text ≡ flat_map (block_words (map marked_text l.pieces) l.rows l.context) (take l.block-index l.blocks)
