-- Hunks with the lines before and after them, as `patch` takes them: the unified format of `diff -u` and of git.
use Rattle.std.specs.Prelude.{ℕ, ◌+◌, ◌-◌, List, [], ◌∷◌, ◌++◌, Bool, length, codes, encode_utf8, nat_le, if◌then◌else◌}
use Rattle.std.specs.List.{flat_map}
use Rattle.tp_hunks.specs.Hunks.{lines_at}
use Rattle.tp_hunks.specs.Lines.{has_end}
use Rattle.tp_hunks.specs.Printing.{ranges_line}
use Rattle.tp_hunks.specs.declared.trimming.Hunk.{Hunk}
use Rattle.tp_hunks.specs.declared.unified.Block.{Block}
use Rattle.tp_hunks.specs.declared.printing.Range.{Range}

-- ---- which hunks are printed together

-- at most twice as many lines are between the two as are printed before and after
abbrev pub is_near : ℕ → Hunk → Hunk → Bool
is_near context h k = nat_le (k.old_at - (h.old_at + h.old_len) - context) context

-- a block of one hunk, which comes after others
abbrev pub lone_block : ℕ → Hunk → Block
lone_block at h = record { at = at; len = 1; first = h; last = h }

-- one more hunk in the block
abbrev pub with_hunk : Block → Hunk → Block
with_hunk b h = record b { len = b.len + 1; last = h }

-- the blocks of the hunks, where this one is open
abbrev pub blocks_from : ℕ → Block → List Hunk → List Block
blocks_from context b [] = b ∷ []
blocks_from context b (h ∷ hs) =
    if is_near context b.last h then blocks_from context (with_hunk b h) hs else b ∷ blocks_from context (lone_block (b.at + b.len) h) hs

abbrev pub blocks_of : ℕ → List Hunk → List Block
blocks_of context [] = []
blocks_of context (h ∷ hs) = blocks_from context (lone_block 0 h) hs

-- ---- how they are printed

-- the smaller of two numbers
abbrev pub smaller : ℕ → ℕ → ℕ
smaller a b = if nat_le a b then a else b

-- what is after the characters of a line: of one without a newline, a remark that it has none
abbrev pub line_end : List ℕ → List ℕ
line_end l = if has_end l then [] else codes "\n\\ No newline at end of file\n"

-- a line after a sign
abbrev pub file_line : List ℕ → List ℕ → List ℕ
file_line sign l = (sign ++ flat_map encode_utf8 l) ++ line_end l

-- lines, each after a sign
abbrev pub file_lines_text : List ℕ → List (List ℕ) → List ℕ
file_lines_text sign ls = flat_map (file_line sign) ls

-- a hunk's lines, with the old lines from a place on before it
abbrev pub hunk_with_lines : List (List ℕ) → List (List ℕ) → ℕ → Hunk → List ℕ
hunk_with_lines old new at h =
    file_lines_text (codes " ") (lines_at at (h.old_at - at) old)
    ++ file_lines_text (codes "-") (lines_at h.old_at h.old_len old)
    ++ file_lines_text (codes "+") (lines_at h.new_at h.new_len new)

-- the lines of hunks, with the old lines before, between and after them from a place on: after the last one as many as said, or
-- as there are
abbrev pub changed_lines : List (List ℕ) → List (List ℕ) → ℕ → ℕ → List Hunk → List ℕ
changed_lines old new context at [] = file_lines_text (codes " ") (lines_at at context old)
changed_lines old new context at (h ∷ hs) = hunk_with_lines old new at h ++ changed_lines old new context (h.old_at + h.old_len) hs

-- how many lines are printed before a block, and after it
abbrev pub lines_before : ℕ → Block → ℕ
lines_before context b = smaller context b.first.old_at

abbrev pub lines_after : ℕ → ℕ → Block → ℕ
lines_after context count b = smaller context (count - (b.last.old_at + b.last.old_len))

-- the lines of a block, with those before and after it: in the old text, which has `count` lines, and in the new one
abbrev pub old_range : ℕ → ℕ → Block → Range
old_range context count b = record {
  at = b.first.old_at - lines_before context b;
  len = b.last.old_at + b.last.old_len + lines_after context count b - (b.first.old_at - lines_before context b);
}

abbrev pub new_range : ℕ → ℕ → Block → Range
new_range context count b = record {
  at = b.first.new_at - lines_before context b;
  len = b.last.new_at + b.last.new_len + lines_after context count b - (b.first.new_at - lines_before context b);
}

-- the line of the places of a block
abbrev pub block_places : ℕ → ℕ → Block → List ℕ
block_places context count b = ranges_line (old_range context count b) (new_range context count b)

-- a block: its places and its lines
abbrev pub block_text : List (List ℕ) → List (List ℕ) → ℕ → List Hunk → Block → List ℕ
block_text old new context hs b =
    block_places context (length old) b
    ++ changed_lines old new context (b.first.old_at - lines_before context b) (lines_at b.at b.len hs)

-- all of them
abbrev pub unified_text : List (List ℕ) → List (List ℕ) → ℕ → List Hunk → List ℕ
unified_text old new context hs = flat_map (block_text old new context hs) (blocks_of context hs)
