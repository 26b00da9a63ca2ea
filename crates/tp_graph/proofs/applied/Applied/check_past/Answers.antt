use Rattle.tp_graph.proofs.Common.{◌≡◌, ◌∙◌, ap, sym, subst, next_counter, past_changes, past, Sound}
use Rattle.tp_history.specs.Fit as fit
use Rattle.tp_graph.proofs.AnswersLaws.{MatchesCause-passed}
use Rattle.tp_ancestry.proofs.VectorLaws.{past_changes-past}
use Rattle.tp_history.proofs.SoundLaws.{sound_pasts}
use Rattle.tp_graph.proofs.applied.Applied.check_past.Goals as goal

pub check_after-requires-clause-past : goal.check_after-requires-clause-past
check_after-requires-clause-past c =
    let same : past_changes c.in_ok-past_set.past_set c.args.self.now.changes ≡ past c.args.self.now.changes c.deps.result.now = past_changes-past c.in_ok-past_set.past_set c.args.self.now.changes c.deps.result.now (rw c.ancestry.ensures at c.in_ok-past_set.ensures.bits) in
    subst Sound (sym same) (sound_pasts c.args.self.now.changes c.changes-changes.ensures.sound c.deps.result.now)

pub check_after-requires-clause-start : goal.check_after-requires-clause-start
check_after-requires-clause-start c =
    let same : past_changes c.in_ok-past_set.past_set c.args.self.now.changes ≡ past c.args.self.now.changes c.deps.result.now = past_changes-past c.in_ok-past_set.past_set c.args.self.now.changes c.deps.result.now (rw c.ancestry.ensures at c.in_ok-past_set.ensures.bits) in
    c.requires.beyond.start ∙ ap (λ h. next_counter (past c.args.self.now.changes h)) (sym c.deps.ensures) ∙ ap next_counter (sym same)

pub returns-in_err-check_after-clause-answers : goal.returns-in_err-check_after-clause-answers
returns-in_err-check_after-clause-answers c =
    let same : past_changes c.in_ok-past_set.past_set c.args.self.now.changes ≡ past c.args.self.now.changes c.args.change.now.deps =
    past_changes-past c.in_ok-past_set.past_set c.args.self.now.changes c.deps.result.now (rw c.ancestry.ensures at c.in_ok-past_set.ensures.bits) ∙ ap (past c.args.self.now.changes) c.deps.ensures in
    let reported = rw same at c.in_err-check_after.ensures.answers in
    MatchesCause-passed (fit.defect_after (past c.args.self.now.changes c.args.change.now.deps) c.args.change.now) c.in_err-check_after.field-0.0 c.from_residual-in_err-check_after.result reported c.from_residual-in_err-check_after.ensures.1

pub returns-clause-answers : goal.returns-clause-answers
returns-clause-answers c =
    let same : past_changes c.in_ok-past_set.past_set c.args.self.now.changes ≡ past c.args.self.now.changes c.args.change.now.deps =
    past_changes-past c.in_ok-past_set.past_set c.args.self.now.changes c.deps.result.now (rw c.ancestry.ensures at c.in_ok-past_set.ensures.bits) ∙ ap (past c.args.self.now.changes) c.deps.ensures in
    rw same at c.in_ok-check_after.ensures.answers
