use Rattle.std.proofs.Common.{List, ℕ, inr, refl, rules, subst}
use Rattle.std.specs.String.{string_bytes}
use Rattle.tp_commands.specs.Editing.{TakesJournal}
use Rattle.tp_journal.specs.Journal.{failing}
use Rattle.tp_peer.specs.Appending.{journal_state}
use Rattle.tp_peer.specs.Opening.{Reopens}
use Rattle.tp_disk.specs.DiskView.{WasLeft}
use Rattle.tp_disk.specs.Keys.{after_draw, drawn_actor}
use Rattle.tp_program.specs.Lines.{IsMergeLine}
use Rattle.tp_program.proofs.DoneLaws.{refused_on}
use Rattle.tp_program.proofs.running.merge_files.Goals as goal

pub returns-in_ok-format-in-Ok-clause-line : goal.returns-in_ok-format-in-Ok-clause-line
returns-in_ok-format-in-Ok-clause-line g c =
    let reopens : Reopens (journal_state c.in_ok-journal.field-0.journal.file.content (failing c.in_ok-journal.field-0.journal.file.failures)) (drawn_actor c.in_ok-generator.generator) c.in_ok-peer.peer = search rules in
    let takes : TakesJournal c.in_ok-peer.peer c.in-Ok.read (drawn_actor (after_draw c.in_ok-generator.generator)) c.in_ok-journal-in-Ok.count c.in_ok-journal-in-Ok.journal.file.content =
    search rules in
    let merges : IsMergeLine c.args.key c.in_ok-journal.field-0.journal.file.content c.in-Ok.read c.in_ok-journal-in-Ok.journal.file.content (string_bytes c.in_ok-format-in-Ok.field-0) =
    record {
      generator = c.in_ok-generator.generator;
      peer = c.in_ok-peer.peer;
      count = c.in_ok-journal-in-Ok.count;
      keyed = c.in_ok-generator.ensures;
      opens = record {
        opened = journal_state c.in_ok-journal.field-0.journal.file.content (failing c.in_ok-journal.field-0.journal.file.failures);
        content = refl;
        reopens = reopens;
      };
      takes = takes;
      spelled = search rules;
    } in (
      c.in_ok-journal.field-0.journal.file.content,
      c.in_ok-journal-in-Ok.journal.file.content,
      c.in_ok-journal.ensures.taken,
      (c.in-Ok.read, c.in-Ok.ensures, merges),
      subst (λ (b : List ℕ). g.D.Folders.saw c.args.rt.now (WasLeft c.args.file.now b)) c.in_ok-leave-in-Ok.ensures.stays c.in_ok-leave-in-Ok.ensures.left,
    )

pub returns-in_ok-format-in-Ok-clause-cuts : goal.returns-in_ok-format-in-Ok-clause-cuts
returns-in_ok-format-in-Ok-clause-cuts g c = (c.in_ok-journal.field-0.journal.file.content, c.in_ok-journal.ensures.taken, c.in_ok-journal.ensures.cuts)

pub returns-in_err-peer-clause-may_cut : goal.returns-in_err-peer-clause-may_cut
returns-in_err-peer-clause-may_cut g c =
    refused_on c.from_residual-in_err-peer.result (inr (c.in_ok-journal.field-0.journal.file.content, c.in_ok-journal.ensures.taken, c.in_ok-journal.ensures.cuts))

pub returns-in_err-journal-in-Ok-clause-may_cut : goal.returns-in_err-journal-in-Ok-clause-may_cut
returns-in_err-journal-in-Ok-clause-may_cut g c =
    refused_on c.from_residual-in_err-journal-in-Ok.result (inr (c.in_ok-journal.field-0.journal.file.content, c.in_ok-journal.ensures.taken, c.in_ok-journal.ensures.cuts))

pub returns-in_err-leave-in-Ok-clause-may_cut : goal.returns-in_err-leave-in-Ok-clause-may_cut
returns-in_err-leave-in-Ok-clause-may_cut g c =
    refused_on c.from_residual-in_err-leave-in-Ok.result (inr (c.in_ok-journal.field-0.journal.file.content, c.in_ok-journal.ensures.taken, c.in_ok-journal.ensures.cuts))

pub returns-in_err-format-in-Ok-clause-may_cut : goal.returns-in_err-format-in-Ok-clause-may_cut
returns-in_err-format-in-Ok-clause-may_cut g c =
    refused_on c.from_residual-in_err-format-in-Ok.result (inr (c.in_ok-journal.field-0.journal.file.content, c.in_ok-journal.ensures.taken, c.in_ok-journal.ensures.cuts))

pub returns-in-Err-clause-may_cut : goal.returns-in-Err-clause-may_cut
returns-in-Err-clause-may_cut g c = inr (c.in_ok-journal.field-0.journal.file.content, c.in_ok-journal.ensures.taken, c.in_ok-journal.ensures.cuts)
