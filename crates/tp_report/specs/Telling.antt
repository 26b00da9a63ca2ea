-- What a stream holds after a report on it: of what was done, and of a refusal.
use Rattle.std.specs.Prelude.{◌≡◌, ◌⊎◌, ℕ, List, [], ◌++◌, Option, Some, None, codes}
use Rattle.std.specs.Fmt.{decimal}
use Rattle.std.specs.Io.KnownBytes.{Appends, Keeps}
use Rattle.tp_textpeer.specs.Output.{AppendsPart}
use Rattle.tp_disk.specs.Opening.{cut_path}
use Rattle.tp_report.specs.JobError.{IsOfOutput, no_memory}
use Rattle.tp_report.specs.Names.{refusal_lines, refusal_text}
use Rattle.tp_report.specs.declared.error.JobError.{JobError}
use Rattle.tp_list.specs.Bytes.{line}

-- the line of how many changes entered
abbrev pub applied_line : ℕ → List ℕ
applied_line applied = line (codes "applied " ++ decimal applied)

-- what is reported of a session: how many changes entered
abbrev pub applied_text : Option ℕ → List ℕ
applied_text None = []
applied_text (Some applied) = applied_line applied

-- What the writer holds grew by bytes for which P holds.
abbrev pub GrowsBy : (List ℕ → Type 0) → Option (List ℕ) → Option (List ℕ) → Type 0
GrowsBy P before after = (printed : List ℕ) × P printed × Appends before after printed

-- What the writer holds grew by a beginning of bytes for which P holds.
abbrev pub GrowsPart : (List ℕ → Type 0) → Option (List ℕ) → Option (List ℕ) → Type 0
GrowsPart P before after = (printed : List ℕ) × P printed × AppendsPart before after printed

-- the text, and the line of where bytes are kept that were cut off the journal in the file
abbrev pub with_cut : List ℕ → List ℕ → Option ℕ → List ℕ
with_cut text file None = text
with_cut text file (Some at) = text ++ codes "cut " ++ line (cut_path file at)

-- What the error stream holds of a report: nothing more, or the line of how many changes entered and that of what was
-- cut off, or a beginning of these where writing failed.
abbrev pub Reports : List ℕ → Option ℕ → Option ℕ → Option (List ℕ) → Option (List ℕ) → Type 0
Reports file None None before after = Keeps before after
Reports file cut reported before after = AppendsPart before after (with_cut (applied_text reported) file cut)

-- What the output holds after a refusal: what it held, or where the output itself failed a beginning of what is printed.
abbrev pub RefusesPrinting : (List ℕ → Type 0) → Option (List ℕ) → JobError → Option (List ℕ) → Type 0
RefusesPrinting P before e after = Keeps before after ⊎ (IsOfOutput e × GrowsPart P before after)

-- The bytes are what is printed of the refusal, and of what was cut off the journal in the file, and below that the
-- note; or the line of `OutOfMemory`, where there was no memory for that.
abbrev pub IsToldOf : List ℕ → List ℕ → Option ℕ → JobError → List ℕ → Type 0
IsToldOf note file cut e printed = (printed ≡ with_cut (refusal_lines e) file cut ++ note) ⊎ (printed ≡ line (refusal_text no_memory))

-- the bytes are what is printed of the refusal, where nothing was cut off
abbrev pub IsLineOf : JobError → List ℕ → Type 0
IsLineOf e printed = IsToldOf [] [] None e printed
