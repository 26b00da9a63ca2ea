use Rattle.std.proofs.Common.{◌≡◌, ◌+◌, ◌≤◌, ◌++◌, drop, map, false}
use Rattle.tp_hunks.specs.Words.{rows_from, rows_of, marked_text}
use Rattle.tp_hunks.proofs.words.rows_of.Given as goal

-- the rows so far, and those from the open one on, are all
abbrev pub invariant-loop-piece : goal.invariant-loop-piece
invariant-loop-piece l = record {
  made : l.rows.items ++ rows_from l.row (map marked_text (drop l.piece-index l.pieces)) ≡ rows_of (map marked_text l.pieces);
  so_far : l.row.at + l.row.len ≡ l.piece-index;
  old : l.row.old_at ≤ l.piece-index;
  new : l.row.new_at ≤ l.piece-index;
  going_on : l.row.is_ended ≡ false;
}
