use Rattle.std.proofs.Common.{◌≡◌, ◌∙◌, List, ℕ, IfOk, subst, sym}
use Rattle.std.specs.Str.{chars}
use Rattle.std.specs.String.{string_bytes}
use Rattle.tp_command_line.specs.declared.job.Inserted.{Inserted}
use Rattle.tp_disk.specs.DiskView.{DiskView, ChangesFile}
use Rattle.tp_program.specs.Files.{IsGiven, OfInserted}
use Rattle.tp_program.specs.Lines.{IsEditLine}
use Rattle.tp_program.proofs.DoneLaws.{on_value}
use Rattle.tp_program.proofs.running.edited_by.Goals as goal

-- the text of a file, or of the standard input
pub returns-in_ok-text-in-InFile-clause-line : goal.returns-in_ok-text-in-InFile-clause-line
returns-in_ok-text-in-InFile-clause-line g c =
    let saw : DiskView → Type 0 = g.D.Folders.saw c.args.rt.now in
    let P : Inserted → Type 0 = λ x. IfOk c.edit_file-in-InFile.result (λ p. OfInserted saw x (λ inserted. ChangesFile saw c.args.file.now
    (λ before after. IsEditLine c.args.key (record { at = c.args.place.0; del = c.args.place.1; text = inserted }) c.args.time (chars c.args.message.now) before after (string_bytes p.0)))) in
    let text : c.in_ok-text-in-InFile.text.now ≡ c.in_ok-bytes-in-InFile.bytes.items = c.in_ok-text-in-InFile.ensures.ok ∙ c.deref.ensures.value in
    let given : IsGiven saw c.in-InFile.path.now c.in_ok-text-in-InFile.text.now =
    subst (λ (b : List ℕ). IsGiven saw c.in-InFile.path.now b) (sym text) c.in_ok-bytes-in-InFile.ensures in
    subst P (sym c.in-InFile.is) (on_value _ _ c.edit_file-in-InFile.result c.edit_file-in-InFile.ensures.line (λ p line. (c.in_ok-text-in-InFile.text, given, line)))
