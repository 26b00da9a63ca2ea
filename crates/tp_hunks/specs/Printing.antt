-- Hunks as they are printed.
use Rattle.std.specs.Prelude.{ℕ, ◌+◌, ◌==◌, List, [], ◌∷◌, ◌++◌, codes, encode_utf8, if◌then◌else◌}
use Rattle.std.specs.Fmt.{decimal}
use Rattle.std.specs.List.{flat_map}
use Rattle.tp_hunks.specs.Hunks.{lines_at}
use Rattle.tp_hunks.specs.declared.printing.Range.{Range}
use Rattle.tp_hunks.specs.declared.trimming.Hunk.{Hunk}

-- the number of the first of `len` lines, from 1: of no line that of the line before it
abbrev pub first_number : ℕ → ℕ → ℕ
first_number at len = if len == 0 then at else at + 1

-- that number, and how many lines they are
abbrev pub place_text : ℕ → ℕ → List ℕ
place_text at len = decimal (first_number at len) ++ (codes "," ++ decimal len)

-- a line after a sign, and its newline
abbrev pub signed_line : List ℕ → List ℕ → List ℕ
signed_line sign text = (sign ++ flat_map encode_utf8 text) ++ 10 ∷ []

-- the line of the places of some lines of an old text and of a new one
abbrev pub ranges_line : Range → Range → List ℕ
ranges_line old new = (codes "@@ -" ++ place_text old.at old.len ++ codes " +" ++ place_text new.at new.len ++ codes " @@") ++ 10 ∷ []

-- the line of the places of a hunk
abbrev pub places_line : Hunk → List ℕ
places_line h = ranges_line (record { at = h.old_at; len = h.old_len }) (record { at = h.new_at; len = h.new_len })

-- a hunk of two lists of lines: its places, the lines that go, each after a `-`, and those that come, each after a `+`
abbrev pub hunk_lines : List (List ℕ) → List (List ℕ) → Hunk → List ℕ
hunk_lines old new h =
    places_line h ++ flat_map (signed_line (codes "-")) (lines_at h.old_at h.old_len old) ++ flat_map (signed_line (codes "+")) (lines_at h.new_at h.new_len new)
