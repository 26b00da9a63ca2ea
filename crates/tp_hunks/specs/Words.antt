-- Two texts in one, with what goes and what comes marked within the lines, as `git diff --word-diff` prints it.
use Rattle.std.specs.Prelude.{ℕ, ◌+◌, ◌-◌, ◌==◌, ◌||◌, List, [], ◌∷◌, ◌++◌, Bool, true, false, Option, Some, None, length, map, take, drop, slice_get, codes, encode_utf8, if◌then◌else◌}
use Rattle.std.specs.Fmt.{decimal}
use Rattle.std.specs.List.{flat_map}
use Rattle.tp_hunks.specs.Hunks.{lines_at}
use Rattle.tp_hunks.specs.Lines.{file_lines, has_end, put_chars}
use Rattle.tp_hunks.specs.Unified.{blocks_of, lines_before, lines_after}
use Rattle.tp_hunks.specs.declared.replacing.Replacement.{Replacement}
use Rattle.tp_hunks.specs.declared.trimming.Hunk.{Hunk}
use Rattle.tp_hunks.specs.declared.unified.Block.{Block}
use Rattle.tp_hunks.specs.declared.words.Mark.{Mark}
use Rattle.tp_hunks.specs.declared.words.Mark.TheVariants.{Stays, Goes, Comes}
use Rattle.tp_hunks.specs.declared.words.Piece.{Piece}
use Rattle.tp_hunks.specs.declared.words.Row.{Row}

-- ---- what goes and what comes

-- characters of one line, and what becomes of them
pub record MarkedText : Type 0 where
  pub mark : Mark
  pub text : List ℕ

-- what is seen of a piece
abbrev pub marked_text : Piece → MarkedText
marked_text p = record { mark = p.mark; text = p.text.now }

-- characters, line by line
abbrev pub marked_lines : Mark → List ℕ → List MarkedText
marked_lines mark t = map (λ l. record { mark = mark; text = l }) (file_lines t)

-- the characters A of the old text, which come after n characters of the new one, with what the replacements take out, and with
-- what they put in
abbrev pub marked_from : List ℕ → ℕ → List Replacement → List MarkedText
marked_from A n [] = marked_lines Stays A
marked_from A n (r ∷ rs) =
    marked_lines Stays (take (r.at - n) A)
    ++ (marked_lines Goes (take r.del (drop (r.at - n) A))
    ++ (marked_lines Comes (put_chars r)
    ++ marked_from (drop r.del (drop (r.at - n) A)) (r.at + length (put_chars r)) rs))

-- ---- rows: each ends at a newline of either text

abbrev pub is_change : Mark → Bool
is_change Stays = false
is_change Goes = true
is_change Comes = true

-- whether it is of the old text, and of the new one
abbrev pub is_old : Mark → Bool
is_old Stays = true
is_old Goes = true
is_old Comes = false

abbrev pub is_new : Mark → Bool
is_new Stays = true
is_new Goes = false
is_new Comes = true

-- one more where it is so
abbrev pub one_if : Bool → ℕ → ℕ
one_if b n = if b then n + 1 else n

-- one more piece in the row
abbrev pub with_text_piece : Row → MarkedText → Row
with_text_piece row p = record row { len = row.len + 1; is_changed = row.is_changed || is_change p.mark }

-- the row with its last piece, which ends in a newline
abbrev pub ended_row : Row → MarkedText → Row
ended_row row p = record (with_text_piece row p) { is_ended = true }

-- the empty row after that
abbrev pub row_after : Row → MarkedText → Row
row_after row p = record {
  at = row.at + row.len + 1;
  len = 0;
  old_at = one_if (is_old p.mark) row.old_at;
  new_at = one_if (is_new p.mark) row.new_at;
  is_changed = false;
  is_ended = false;
}

-- the first row, which is empty
abbrev pub first_row : Row
first_row = record { at = 0; len = 0; old_at = 0; new_at = 0; is_changed = false; is_ended = false }

-- the rows of the pieces, where this row is open
abbrev pub rows_from : Row → List MarkedText → List Row
rows_from row [] = if row.len == 0 then [] else row ∷ []
rows_from row (p ∷ ps) = if has_end p.text then ended_row row p ∷ rows_from (row_after row p) ps else rows_from (with_text_piece row p) ps

abbrev pub rows_of : List MarkedText → List Row
rows_of ps = rows_from first_row ps

-- the rows that changed, each by its place as a hunk of one line
abbrev pub row_hunk : ℕ → Hunk
row_hunk at = record { old_at = at; old_len = 1; new_at = at; new_len = 1 }

abbrev pub changed_from : ℕ → List Row → List Hunk
changed_from at [] = []
changed_from at (row ∷ rows) = if row.is_changed then row_hunk at ∷ changed_from (at + 1) rows else changed_from (at + 1) rows

-- ---- how they are printed

-- characters between two signs, and the newline after them
abbrev pub between_signs : List ℕ → List ℕ → List ℕ → List ℕ
between_signs left right line =
    if has_end line then (left ++ flat_map encode_utf8 (take (length line - 1) line)) ++ (right ++ 10 ∷ []) else (left ++ flat_map encode_utf8 line) ++ right

-- characters by what becomes of them
abbrev pub sign_text : Mark → List ℕ → List ℕ
sign_text Stays line = flat_map encode_utf8 line
sign_text Goes line = between_signs (codes "[-") (codes "-]") line
sign_text Comes line = between_signs (codes "{+") (codes "+}") line

abbrev pub piece_text : MarkedText → List ℕ
piece_text p = sign_text p.mark p.text

-- a row: its pieces, and a newline where it has none
abbrev pub row_text : List MarkedText → Row → List ℕ
row_text ps row = flat_map piece_text (lines_at row.at row.len ps) ++ (if row.is_ended then [] else 10 ∷ [])

-- the line of the numbers, from 1, of the lines of the old text and of the new one in which a row begins
abbrev pub row_line : Row → List ℕ
row_line row = codes "@@ -" ++ decimal (row.old_at + 1) ++ codes " +" ++ decimal (row.new_at + 1) ++ codes " @@\n"

abbrev pub numbers_line : Option Row → List ℕ
numbers_line None = []
numbers_line (Some row) = row_line row

-- how many rows come before a block with those before it, and how many it has with those after it
abbrev pub block_start : ℕ → Block → ℕ
block_start context b = b.first.old_at - lines_before context b

abbrev pub block_len : ℕ → ℕ → Block → ℕ
block_len context count b = b.last.old_at + b.last.old_len + lines_after context count b - block_start context b

-- a block: where it begins, and its rows
abbrev pub block_words : List MarkedText → List Row → ℕ → Block → List ℕ
block_words ps rows context b =
    numbers_line (slice_get rows (block_start context b))
    ++ flat_map (row_text ps) (lines_at (block_start context b) (block_len context (length rows) b) rows)

-- all of them
abbrev pub words_of_rows : List MarkedText → List Row → ℕ → List ℕ
words_of_rows ps rows context = flat_map (block_words ps rows context) (blocks_of context (changed_from 0 rows))

abbrev pub words_text : List ℕ → List Replacement → ℕ → List ℕ
words_text old rs context = words_of_rows (marked_from old 0 rs) (rows_of (marked_from old 0 rs)) context
