-- Lines of a text, and replacements in one. A text is the list of its characters.
use Rattle.std.specs.Prelude.{◌≡◌, ℕ, ◌+◌, ◌-◌, ◌==◌, Bool, false, Option, Some, None, List, [], ◌∷◌, ◌++◌, length, take, drop, cond, slice_get}
use Rattle.std.specs.List.{count_by, onto_first, slice_split, sum_by}
use Rattle.tp_hunks.specs.declared.replacing.Replacement.{Replacement}
use Rattle.tp_hunks.specs.declared.replacing.Step.{Step}

abbrev pub is_newline : ℕ → Bool
is_newline ch = ch == 10

-- the lines of a text: what its newlines part, so that the last one is empty where the text ends in a newline
abbrev pub lines_of_text : List ℕ → List (List ℕ)
lines_of_text t = slice_split is_newline t

-- the lines of a text as files have them: each ends in its newline, except the last one where the text doesn't end in one
abbrev pub file_lines : List ℕ → List (List ℕ)
file_lines [] = []
file_lines (ch ∷ t) = cond (is_newline ch) ((ch ∷ []) ∷ file_lines t) (onto_first ch (file_lines t))

-- how many characters the first of these lines has
abbrev pub line_len : List ℕ → ℕ
line_len [] = 0
line_len (ch ∷ t) = cond (is_newline ch) 1 (1 + line_len t)

abbrev pub is_some_newline : Option ℕ → Bool
is_some_newline None = false
is_some_newline (Some ch) = is_newline ch

-- the line ends in a newline
abbrev pub has_end : List ℕ → Bool
has_end line = is_some_newline (slice_get line (length line - 1))

abbrev pub newline_count : List ℕ → ℕ
newline_count t = count_by is_newline t

-- the characters that the replacement puts there
abbrev pub put_chars : Replacement → List ℕ
put_chars r = r.text.now

-- The replacements lead from the characters A of the old text to B of the new one, which come after n characters of the new
-- one: each is after characters that stay.
abbrev pub LeadsText : List ℕ → List ℕ → ℕ → List Replacement → Type 0
LeadsText A B n [] = A ≡ B
LeadsText A B n (r ∷ rs) =
    (stay : List ℕ) × (gone : List ℕ) × (X : List ℕ) × (Y : List ℕ)
    × (A ≡ stay ++ (gone ++ X)) × (B ≡ stay ++ (put_chars r ++ Y))
    × (r.at ≡ n + length stay) × (r.del ≡ length gone)
    × LeadsText X Y (r.at + length (put_chars r)) rs

-- The newlines of each replacement, where the characters A of the old text are left, after n characters of the new one: among
-- the characters that stay before it, among those that go, and among those that come.
abbrev pub steps_of : List ℕ → ℕ → List Replacement → List Step
steps_of A n [] = []
steps_of A n (r ∷ rs) =
    (record {
      stay = newline_count (take (r.at - n) A);
      gone = newline_count (take r.del (drop (r.at - n) A));
      come = newline_count (put_chars r);
    })
    ∷ steps_of (drop r.del (drop (r.at - n) A)) (r.at + length (put_chars r)) rs

-- how many newlines of the old text, and of the new one, the steps pass
abbrev pub old_passed : List Step → ℕ
old_passed ss = sum_by (λ s. s.stay + s.gone) ss

abbrev pub new_passed : List Step → ℕ
new_passed ss = sum_by (λ s. s.stay + s.come) ss
