use Rattle.std.proofs.Common.{◌≡◌, ◌++◌, map, take, length}
use Rattle.std.specs.Prelude.{slice_get}
use Rattle.std.specs.List.{flat_map}
use Rattle.std.specs.String.{string_bytes}
use Rattle.tp_hunks.specs.Hunks.{lines_at}
use Rattle.tp_hunks.specs.Words.{block_len, block_start, numbers_line, row_text, marked_text}
use Rattle.tp_hunks.proofs.words.block_words.Given as goal

-- the rows so far are after the line of where they begin
abbrev pub invariant-loop-row : goal.invariant-loop-row
invariant-loop-row l = string_bytes l.text ≡ numbers_line (slice_get l.rows (block_start l.context l.block)) ++ flat_map (row_text (map marked_text l.pieces)) (take l.row-index (lines_at (block_start l.context l.block) (block_len l.context (length l.rows) l.block) l.rows))
