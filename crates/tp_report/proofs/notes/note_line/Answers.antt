use Rattle.std.proofs.Common.{◌≡◌, ◌∙◌, ◌++◌, ℕ, Bool, true, List, codes, subst, sym}
use Rattle.std.specs.String.{string_bytes}
use Rattle.tp_report.specs.Notes.{IsNoteOf, names_file, fault_place}
use Rattle.tp_list.specs.Bytes.{line}
use Rattle.tp_report.proofs.TellLaws as laws
use Rattle.tp_report.proofs.notes.note_line.Goals as goal

-- the file, the place in it, and the sentence
pub returns-then-names_file : goal.returns-then-names_file
returns-then-names_file g c =
    let sentence = string_bytes c.in_ok-sentence.sentence in
    let printed = string_bytes c.in_ok-format.field-0 in
    let named : names_file c.args.error.now ≡ true = sym c.names_file.ensures ∙ c.if-names_file.true in
    let spelled = c.in_ok-format.ensures.ok
    ∙ laws.note_line (codes "  ") c.path_at_fault-path.result.now (codes ": ") (string_bytes c.in_ok-place.place) sentence in
    let at_place = subst (λ (p : List ℕ). printed ≡ line (codes "  " ++ c.path_at_fault-path.result.now ++ codes ": " ++ p ++ sentence)) c.in_ok-place.ensures spelled in
    let at_path = subst (λ (p : List ℕ). printed ≡ line (codes "  " ++ p ++ codes ": " ++ fault_place c.args.error.now ++ sentence)) c.path_at_fault-path.ensures at_place in
    subst (λ (b : Bool). IsNoteOf b c.args.subject.now c.args.error.now printed) (sym named) (sentence, at_path)
