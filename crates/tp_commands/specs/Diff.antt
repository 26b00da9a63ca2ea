-- What `diff` prints: which lines of one text become which lines of another.
use Rattle.std.specs.Prelude.{◌≡◌, List, [], ◌∷◌, ◌++◌, ℕ, drop, length, take}
use Rattle.std.specs.List.{flat_map}
use Rattle.tp_opid.specs.declared.hash.Hash.{Hash}
use Rattle.tp_layout.specs.declared.parts.ChangeParts.{ChangeParts}
use Rattle.tp_snapshot.specs.Differences.{AllInText, AllSeparate, AreDifferences, after_differences}
use Rattle.tp_snapshot.specs.declared.differences.Difference.{Difference}
use Rattle.tp_history.specs.Past.{past}
use Rattle.tp_hunks.specs.Hunks.{AreFileHunks, AreHunks}
use Rattle.tp_hunks.specs.Lines.{file_lines, lines_of_text}
use Rattle.tp_hunks.specs.Printing.{hunk_lines}
use Rattle.tp_hunks.specs.Unified.{unified_text}
use Rattle.tp_hunks.specs.Words.{words_text}
use Rattle.tp_hunks.specs.declared.replacing.Replacement.{Replacement}
use Rattle.tp_hunks.specs.declared.trimming.Hunk.{Hunk}
use Rattle.tp_edit.specs.Text.{IsTextOf}
use Rattle.tp_commands.specs.declared.diff.DiffForm.{DiffForm}
use Rattle.tp_commands.specs.declared.diff.DiffForm.TheVariants.{Lines, Unified, Words}
use Rattle.tp_commands.specs.Naming.{name_lines}
use Rattle.tp_commands.specs.Reading.{HasChanges, changes_at_heads}

-- the replacement is what the difference does to a text, where it leaves this one
pub record IsReplacementOf (new : List ℕ) (d : Difference) (r : Replacement) : Type 0 where
  pub at : r.at ≡ d.at
  pub del : r.del ≡ d.del
  pub text : r.text.now ≡ take (length d.text) (drop d.at new)

-- the replacements are those, one for one
abbrev pub AreReplacementsOf : List ℕ → List Difference → List Replacement → Type 0
AreReplacementsOf new [] [] = Unit {0}
AreReplacementsOf new [] (r ∷ rs) = ⊥
AreReplacementsOf new (d ∷ ds) [] = ⊥
AreReplacementsOf new (d ∷ ds) (r ∷ rs) = IsReplacementOf new d r × AreReplacementsOf new ds rs

-- The differences, done in turn, lead from the one text to the other; each is in range, and no two could be one.
pub record LeadsFrom (old new : List ℕ) (ds : List Difference) : Type 0 where
  pub text : after_differences old ds ≡ new
  pub range : AllInText (length old) ds
  pub separate : AllSeparate 0 ds

-- The hunks are those from one text to another that the differences make.
abbrev pub AreHunksOf : List ℕ → List ℕ → List Difference → List Hunk → Type 0
AreHunksOf old new ds hunks = (rs : List Replacement) × AreReplacementsOf new ds rs × AreHunks old new rs hunks

-- What is printed are these hunks.
pub record IsDiffOf (old new : List ℕ) (ds : List Difference) (printed : List ℕ) : Type 0 where
  pub hunks : List Hunk
  pub are_hunks : AreHunksOf old new ds hunks
  pub spelled : printed ≡ flat_map (hunk_lines (lines_of_text old) (lines_of_text new)) hunks

-- The hunks are those from one text to another as files have lines, which the differences make.
abbrev pub AreFileHunksOf : List ℕ → List ℕ → List Difference → List Hunk → Type 0
AreFileHunksOf old new ds hunks = (rs : List Replacement) × AreReplacementsOf new ds rs × AreFileHunks old new rs hunks

-- What is printed are these hunks, with the lines before and after them.
pub record IsPatchOf (context : ℕ) (old new : List ℕ) (ds : List Difference) (printed : List ℕ) : Type 0 where
  pub hunks : List Hunk
  pub are_hunks : AreFileHunksOf old new ds hunks
  pub spelled : printed ≡ unified_text (file_lines old) (file_lines new) context hunks

-- What is printed is the old text with what the differences take out and what they put in, as far as lines differ.
pub record IsWordedOf (context : ℕ) (old new : List ℕ) (ds : List Difference) (printed : List ℕ) : Type 0 where
  pub replacements : List Replacement
  pub are : AreReplacementsOf new ds replacements
  pub spelled : printed ≡ words_text old replacements context

-- what is printed in each form
abbrev pub IsPrintedAs : DiffForm → List ℕ → List ℕ → List Difference → List ℕ → Type 0
IsPrintedAs Lines old new ds printed = IsDiffOf old new ds printed
IsPrintedAs (Unified file context) old new ds printed = IsPatchOf context old new ds printed
IsPrintedAs (Words context) old new ds printed = IsWordedOf context old new ds printed

-- the names of both texts before what `patch` takes, where that is anything
abbrev pub with_names : DiffForm → List Hash → List Hash → List ℕ → List ℕ
with_names (Unified file context) from to (b ∷ printed) = name_lines file.now from to ++ (b ∷ printed)
with_names (Unified file context) from to [] = []
with_names (Words context) from to printed = printed
with_names Lines from to printed = printed

-- What is printed is what leads from the text of the past of some heads to that of others, or to the text of all changes where
-- there are none, in this form: by the differences between the two, element by element.
pub record IsDiffBetween (form : DiffForm) (C : List ChangeParts) (from to : List Hash) (printed : List ℕ) : Type 0 where
  pub old : List ℕ
  pub new : List ℕ
  pub old_text : IsTextOf (past C from) old
  pub new_text : IsTextOf (changes_at_heads C to) new
  pub differences : List Difference
  pub are : AreDifferences C (past C from) (changes_at_heads C to) differences
  pub body : List ℕ
  pub is_diff : IsPrintedAs form old new differences body
  pub spelled : printed ≡ with_names form from to body

-- It is so of a journal's changes.
pub record IsDiff (form : DiffForm) (journal : List ℕ) (from to : List Hash) (printed : List ℕ) : Type 0 where
  pub changes : List ChangeParts
  pub recovers : HasChanges journal changes
  pub is_diff : IsDiffBetween form changes from to printed
