use Rattle.std.proofs.Common.{List, ℕ, inr, subst}
use Rattle.tp_document.specs.Common.{chars}
use Rattle.tp_commands.specs.Editing.{EditsJournal}
use Rattle.tp_disk.specs.DiskView.{WasLeft}
use Rattle.tp_program.proofs.DoneLaws.{done_on, on_value, refused_on}
use Rattle.tp_program.proofs.running.edit_file.Goals as goal

pub returns-clause-line : goal.returns-clause-line
returns-clause-line g c =
    let actor = c.in_ok-actor.ensures in
    let before = c.in_ok-journal.field-0.journal.file.content in
    let after = c.in_ok-journal-2.journal.file.content in
    on_value _ _ c.made_line.result c.made_line.ensures.line (λ p spelled. (
      before,
      after,
      c.in_ok-journal.ensures.taken,
      record {
        generator = actor.0;
        made = c.in_ok-journal-2.made;
        keyed = actor.1;
        edits = subst (λ a. EditsJournal before a c.args.splice c.args.time (chars c.args.message.now) c.in_ok-journal-2.made after) actor.2 c.in_ok-journal-2.ensures.edits;
        spelled = spelled;
      },
      subst (λ (b : List ℕ). g.D.Folders.saw c.args.rt.now (WasLeft c.args.file.now b)) c.in_ok-leave.ensures.stays c.in_ok-leave.ensures.left,
    ))

pub returns-in_err-journal-2-clause-may_cut : goal.returns-in_err-journal-2-clause-may_cut
returns-in_err-journal-2-clause-may_cut g c =
    refused_on c.from_residual-in_err-journal-2.result (inr (c.in_ok-journal.field-0.journal.file.content, c.in_ok-journal.ensures.taken, c.in_ok-journal.ensures.cuts))

pub returns-in_err-leave-clause-may_cut : goal.returns-in_err-leave-clause-may_cut
returns-in_err-leave-clause-may_cut g c =
    refused_on c.from_residual-in_err-leave.result (inr (c.in_ok-journal.field-0.journal.file.content, c.in_ok-journal.ensures.taken, c.in_ok-journal.ensures.cuts))

pub returns-clause-cuts : goal.returns-clause-cuts
returns-clause-cuts g c =
    done_on c.made_line.result (c.in_ok-journal.field-0.journal.file.content, c.in_ok-journal.ensures.taken, c.in_ok-journal.ensures.cuts)

pub returns-clause-may_cut : goal.returns-clause-may_cut
returns-clause-may_cut g c =
    refused_on c.made_line.result (inr (c.in_ok-journal.field-0.journal.file.content, c.in_ok-journal.ensures.taken, c.in_ok-journal.ensures.cuts))
