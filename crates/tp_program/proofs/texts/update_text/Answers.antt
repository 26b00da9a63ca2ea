use Rattle.std.proofs.Common.{◌≡◌, ◌∙◌, List, ℕ, ap, inr, subst}
use Rattle.std.specs.Str.{chars}
use Rattle.tp_commands.specs.Since.{UpdatesFrom}
use Rattle.tp_disk.specs.DiskView.{WasLeft}
use Rattle.tp_program.proofs.DoneLaws.{done_on, on_value, refused_on}
use Rattle.tp_disk.specs.Keys.{drawn_actor}
use Rattle.tp_program.proofs.texts.update_text.Goals as goal

pub returns-clause-lines : goal.returns-clause-lines
returns-clause-lines g c =
    let actor = c.in_ok-actor.ensures in
    let before = c.in_ok-journal.field-0.journal.file.content in
    let after = c.in_ok-journal-2.journal.file.content in
    let bytes = c.in_ok-bytes.bytes.items in
    let text : c.in_ok-text.text.now ≡ bytes = c.in_ok-text.ensures.ok ∙ c.deref.ensures.value in
    on_value _ _ c.made_texts.result c.made_texts.ensures.lines (λ p spelled. (
      bytes,
      c.in_ok-bytes.ensures,
      (
        before,
        after,
        c.in_ok-journal.ensures.taken,
        record {
          generator = actor.0;
          hashes = c.in_ok-journal-2.hashes.items;
          keyed = actor.1;
          updates = subst (λ (t : List ℕ). UpdatesFrom c.args.since.now before (drawn_actor actor.0) (chars t) c.args.time (chars c.args.message.now) c.in_ok-journal-2.hashes.items after) text
              (subst (λ a. UpdatesFrom c.args.since.now before a (chars c.in_ok-text.text.now) c.args.time (chars c.args.message.now) c.in_ok-journal-2.hashes.items after) actor.2 c.in_ok-journal-2.ensures.updates);
          spelled = spelled;
        },
        subst (λ (b : List ℕ). g.D.Folders.saw c.args.rt.now (WasLeft c.args.file.now b)) c.in_ok-leave.ensures.stays c.in_ok-leave.ensures.left,
      ),
    ))

pub returns-in_err-journal-2-clause-may_cut : goal.returns-in_err-journal-2-clause-may_cut
returns-in_err-journal-2-clause-may_cut g c =
    refused_on c.from_residual-in_err-journal-2.result (inr (c.in_ok-journal.field-0.journal.file.content, c.in_ok-journal.ensures.taken, c.in_ok-journal.ensures.cuts))

pub returns-in_err-leave-clause-may_cut : goal.returns-in_err-leave-clause-may_cut
returns-in_err-leave-clause-may_cut g c =
    refused_on c.from_residual-in_err-leave.result (inr (c.in_ok-journal.field-0.journal.file.content, c.in_ok-journal.ensures.taken, c.in_ok-journal.ensures.cuts))

pub returns-clause-cuts : goal.returns-clause-cuts
returns-clause-cuts g c =
    done_on c.made_texts.result (c.in_ok-journal.field-0.journal.file.content, c.in_ok-journal.ensures.taken, c.in_ok-journal.ensures.cuts)

pub returns-clause-may_cut : goal.returns-clause-may_cut
returns-clause-may_cut g c =
    refused_on c.made_texts.result (inr (c.in_ok-journal.field-0.journal.file.content, c.in_ok-journal.ensures.taken, c.in_ok-journal.ensures.cuts))
