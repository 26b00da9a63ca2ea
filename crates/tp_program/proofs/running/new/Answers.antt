use Rattle.std.proofs.Common.{[], List, ℕ, ap, subst}
use Rattle.tp_opid.specs.declared.doc_id.DocId.{DocId}
use Rattle.tp_disk.specs.DiskView.{WasLeft}
use Rattle.tp_program.specs.Files.{BeginsJournal}
use Rattle.tp_program.proofs.running.new.Goals as goal

pub returns-clause-line : goal.returns-clause-line
returns-clause-line g c =
    let id : DocId = record { 0 = c.draw.result.0 } in
    let begins : BeginsJournal id [] c.in_ok-make_journal.field-0.file.content c.in_ok-journal.journal.file.content =
    record { unused = c.in_ok-journal.ensures.unused; begun = c.in_ok-journal.ensures.begun } in (
      c.in_ok-make_journal.field-0.file.content,
      c.in_ok-journal.journal.file.content,
      c.in_ok-make_journal.ensures.taken,
      record {
        generator = c.in_ok-generator.generator;
        id = id;
        keyed = c.in_ok-generator.ensures;
        first = ap (λ a. a.0) c.draw.ensures.actor;
        begins = begins;
        spelled = c.in_ok-id_line.ensures.line;
      },
      subst (λ (b : List ℕ). g.D.Folders.saw c.args.rt.now (WasLeft c.args.file.now b)) c.in_ok-leave.ensures.stays c.in_ok-leave.ensures.left,
    )
