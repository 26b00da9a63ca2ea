use Rattle.std.proofs.Common.{ℕ, List, IfErr, subst, sym}
use Rattle.std.specs.Prelude.{IfOk}
use Rattle.std.specs.Str.{chars}
use Rattle.std.specs.String.{string_bytes}
use Rattle.tp_opid.specs.declared.hash.Hash.{Hash}
use Rattle.tp_command_line.specs.declared.job.FileJob.{FileJob}
use Rattle.tp_command_line.specs.declared.job.FileJob.TheVariants.{Edit, Import, Update}
use Rattle.tp_disk.specs.DiskView.{ChangesFile}
use Rattle.tp_report.specs.Names.{WasMade}
use Rattle.tp_program.specs.Files.{OfGiven}
use Rattle.tp_program.specs.Lines.{AreUpdateLines}
use Rattle.tp_program.specs.Output.{IsFilesPrinted}
use Rattle.tp_program.proofs.DoneLaws.{made_of}
use Rattle.tp_program.proofs.running.carry_out.Goals as goal

-- what an edit made whose line couldn't be printed
pub returns-in-Edit-clause-unsaid : goal.returns-in-Edit-clause-unsaid
returns-in-Edit-clause-unsaid g c =
    let saw = g.D.Folders.saw c.args.rt.now in
    let edit : FileJob = Edit c.in-Edit.file c.in-Edit.at c.in-Edit.del c.in-Edit.text c.in-Edit.time c.in-Edit.message c.in-Edit.key in
    let P : FileJob → Type 0 = λ job. IfErr c.put_made-in-Edit.result (WasMade (IsFilesPrinted saw job)) in
    subst P (sym c.in-Edit.is) (made_of c.put_made-in-Edit.result c.edited_by.result (IsFilesPrinted saw edit) (λ p. string_bytes p.0) c.put_made-in-Edit.ensures.unsaid c.edited_by.ensures.line)

-- and what an update or an import made
pub returns-in-Update-clause-unsaid : goal.returns-in-Update-clause-unsaid
returns-in-Update-clause-unsaid g c =
    let saw = g.D.Folders.saw c.args.rt.now in
    let update : FileJob = Update c.in-Update.file c.in-Update.source c.in-Update.since c.in-Update.time c.in-Update.message c.in-Update.key in
    let P : FileJob → Type 0 = λ job. IfErr c.put_updated.result (WasMade (IsFilesPrinted saw job)) in
    let lines =
    subst (λ (hs : List Hash). IfOk c.update_text.result (λ p. OfGiven saw c.in-Update.source.now (λ bytes. ChangesFile saw c.in-Update.file.now (λ before after.
    AreUpdateLines c.in-Update.key hs (chars bytes) c.in-Update.time (chars c.in-Update.message.now) before after (string_bytes p.0)))))
    c.deref.ensures.value c.update_text.ensures.lines in
    subst P (sym c.in-Update.is) (made_of c.put_updated.result c.update_text.result (IsFilesPrinted saw update) (λ p. string_bytes p.0) c.put_updated.ensures.unsaid lines)

pub returns-in-Import-clause-unsaid : goal.returns-in-Import-clause-unsaid
returns-in-Import-clause-unsaid g c =
    let saw = g.D.Folders.saw c.args.rt.now in
    let import : FileJob = Import c.in-Import.file c.in-Import.source c.in-Import.time c.in-Import.message c.in-Import.key in
    let P : FileJob → Type 0 = λ job. IfErr c.put_updated-in-Import.result (WasMade (IsFilesPrinted saw job)) in
    subst P (sym c.in-Import.is) (made_of c.put_updated-in-Import.result c.import_text.result (IsFilesPrinted saw import) (λ p. string_bytes p.0) c.put_updated-in-Import.ensures.unsaid c.import_text.ensures.lines)
