use Rattle.std.proofs.Common.{◌≡◌, ◌++◌, map, take}
use Rattle.std.specs.List.{flat_map}
use Rattle.std.specs.String.{string_bytes}
use Rattle.tp_hunks.specs.Hunks.{lines_at}
use Rattle.tp_hunks.specs.Words.{piece_text, marked_text}
use Rattle.tp_hunks.proofs.words.put_row.Given as goal

-- the pieces so far are after the text
abbrev pub invariant-loop-piece : goal.invariant-loop-piece
invariant-loop-piece l = string_bytes l.text ≡ string_bytes l.fn.text ++ flat_map piece_text (map marked_text (take l.piece-index (lines_at l.row.at l.row.len l.pieces)))
