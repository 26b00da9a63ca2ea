-- What is printed of a refusal, and of what was made.
use Rattle.std.proofs.Common.{inr, Bool, true, ◌≡◌, ◌∙◌, ap, refl, subst, sym, ℕ, List, [], ◌∷◌, length, Result, Ok, Err}
use Rattle.std.specs.Prelude.{IfOk, MatchResult, OnErr, String}
use Rattle.std.specs.List.{flat_map}
use Rattle.std.specs.String.{string_bytes}
use Rattle.std.proofs.lemmas.List.{nil_from_length}
use Rattle.tp_command_line.specs.declared.job.Subject.{Subject}
use Rattle.tp_opid.specs.declared.hash.Hash.{Hash}
use Rattle.tp_commands.specs.Reading.{hash_line, lines_of_made}
use Rattle.tp_report.specs.Notes.{IsNote, no_memory_note}
use Rattle.tp_report.specs.declared.error.JobError.{JobError}

-- what is printed below a refusal is its note
pub noted : {Z E : Type 0} (explains : Bool) (s : Subject) (e : JobError) (note : Result (String Z) E) (printed : List ℕ)
    → IfOk note (λ n. IsNote explains s e (string_bytes n)) → OnErr note (explains ≡ true) → MatchResult note (λ n. printed ≡ string_bytes n) (λ _. printed ≡ no_memory_note)
    → IsNote explains s e printed
noted explains s e (Ok n) printed said quiet text = subst (IsNote explains s e) (sym text) said
noted explains s e (Err f) printed said quiet text = subst (λ (b : Bool). IsNote b s e printed) (sym quiet) (inr text)

-- the lines of changes, where there are some or none
pub some_made : (hs : List Hash) (lines : List ℕ) → lines ≡ lines_of_made hs → (length hs ≡ 0 → ⊥) → lines ≡ flat_map hash_line hs
some_made [] lines is some = absurd (some refl)
some_made (h ∷ hs) lines is some = is

pub none_made : (hs : List Hash) (lines : List ℕ) → lines ≡ lines_of_made hs → length hs ≡ 0 → lines ≡ lines_of_made []
none_made hs lines is none = is ∙ ap lines_of_made (nil_from_length hs none)
