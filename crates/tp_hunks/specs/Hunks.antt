-- Hunks: which lines of an old text become which lines of a new one.
use Rattle.std.specs.Prelude.{◌≡◌, ℕ, ◌+◌, ◌-◌, ◌<◌, ◌≤◌, ◌==◌, ◌&&◌, List, [], ◌∷◌, ◌++◌, length, take, drop, reverse, if◌then◌else◌}
use Rattle.std.specs.List.{common_prefix_len, flat_map}
use Rattle.std.specs.Str.{bytes_eq}
use Rattle.tp_hunks.specs.declared.replacing.Replacement.{Replacement}
use Rattle.tp_hunks.specs.declared.touching.Touched.{Touched}
use Rattle.tp_hunks.specs.declared.trimming.Hunk.{Hunk}
use Rattle.tp_hunks.specs.Lines.{file_lines, lines_of_text, steps_of}
use Rattle.tp_hunks.specs.Touching.{AllAmong, lines_at_start, touched_lines}

-- The hunks lead from the lines A of the old text to B of the new one, which come after i and j lines: each changes
-- something, comes after lines that stay, at least as many as said, and after a hunk one line stays at least.
abbrev pub LeadsLines : ℕ → ℕ → ℕ → List (List ℕ) → List (List ℕ) → List Hunk → Type 0
LeadsLines least i j A B [] = A ≡ B
LeadsLines least i j A B (h ∷ hs) =
    (stay : List (List ℕ)) × (gone : List (List ℕ)) × (come : List (List ℕ)) × (X : List (List ℕ)) × (Y : List (List ℕ))
    × (A ≡ stay ++ (gone ++ X)) × (B ≡ stay ++ (come ++ Y))
    × (least ≤ length stay) × (0 < h.old_len + h.new_len)
    × (h.old_at ≡ i + length stay) × (h.old_len ≡ length gone)
    × (h.new_at ≡ j + length stay) × (h.new_len ≡ length come)
    × LeadsLines 1 (h.old_at + h.old_len) (h.new_at + h.new_len) X Y hs

-- `len` lines from one on
abbrev pub lines_at : {X : Type 0} → ℕ → ℕ → List X → List X
lines_at at len ls = take len (drop at ls)

-- the lines from one up to another
abbrev pub lines_up_to : {X : Type 0} → ℕ → ℕ → List X → List X
lines_up_to first last ls = lines_at first (last + 1 - first) ls

-- with how many lines that are alike the two begin, and end
abbrev pub same_start : List (List ℕ) → List (List ℕ) → ℕ
same_start A B = common_prefix_len bytes_eq A B

abbrev pub same_end : List (List ℕ) → List (List ℕ) → ℕ
same_end A B = same_start (reverse A) (reverse B)

-- the hunk of the lines that go and come, from these places on, less as many at the start and at the end
abbrev pub hunk_less : Touched → ℕ → ℕ → ℕ → ℕ → Hunk
hunk_less g gone come front back = record {
  old_at = g.old_first + front;
  old_len = gone - front - back;
  new_at = g.new_first + front;
  new_len = come - front - back;
}

-- the hunk of the lines that go and come: without those that are alike, first at the start and then at the end
abbrev pub hunk_of : Touched → List (List ℕ) → List (List ℕ) → Hunk
hunk_of g gone come =
    hunk_less g (length gone) (length come) (same_start gone come) (same_end (drop (same_start gone come) gone) (drop (same_start gone come) come))

-- the hunk, or none where it would change nothing
abbrev pub hunk_if_any : Hunk → List Hunk
hunk_if_any h = if ((h.old_len == 0) && (h.new_len == 0)) then [] else (h ∷ [])

-- what becomes a hunk of a group of lines that are touched
abbrev pub trimmed_hunk : List (List ℕ) → List (List ℕ) → Touched → List Hunk
trimmed_hunk A B g = hunk_if_any (hunk_of g (lines_up_to g.old_first g.old_last A) (lines_up_to g.new_first g.new_last B))

-- the hunks of the groups of lines
abbrev pub hunks_of_groups : List (List ℕ) → List (List ℕ) → List Touched → List Hunk
hunks_of_groups A B gs = flat_map (trimmed_hunk A B) gs

-- The hunks from the old text to the new one, which the replacements lead to. They lead from the lines of the one to those of
-- the other. Where the texts are the same there are none; else they are the groups of lines that are touched, each without
-- what it leaves as it was at its start and its end, and what each replacement touches is within one group.
pub record AreHunks (old new : List ℕ) (rs : List Replacement) (hunks : List Hunk) : Type 0 where
  pub leads : LeadsLines 0 0 0 (lines_of_text old) (lines_of_text new) hunks
  pub none : old ≡ new → hunks ≡ []
  pub groups : ¬ (old ≡ new) → hunks ≡ hunks_of_groups (lines_of_text old) (lines_of_text new) (touched_lines (steps_of old 0 rs))
  pub among : AllAmong lines_at_start (steps_of old 0 rs) (touched_lines (steps_of old 0 rs))

-- The hunks from the old text to the new one as files have lines. Their lines are those that replacements touch, as above, and
-- whoever takes the old lines of each out and puts the new ones in gets the new text's lines of the old text's.
pub record AreFileHunks (old new : List ℕ) (rs : List Replacement) (hunks : List Hunk) : Type 0 where
  pub leads : LeadsLines 0 0 0 (file_lines old) (file_lines new) hunks
  pub groups : hunks ≡ hunks_of_groups (file_lines old) (file_lines new) (touched_lines (steps_of old 0 rs))
