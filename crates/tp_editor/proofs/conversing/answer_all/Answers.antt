use Rattle.std.proofs.Common.{List, ℕ, [], ◌++◌, inl, refl, sym, ap, subst, ◌∙◌, append-nil}
use Rattle.std.proofs.lemmas.Result.{err_from_is_err_and}
use Rattle.tp_session.specs.Conversation.{RefusesFeed}
use Rattle.tp_session.specs.SessionState.{SessionState}
use Rattle.tp_session.proofs.Transcripts.{has_ended}
use Rattle.tp_editor.specs.Meeting.{AnswersAll}
use Rattle.tp_editor.proofs.Turns.{answers_none, answers_turn}
use Rattle.tp_editor.proofs.conversing.answer_all.Goals as goal

pub returns-in_err-next-clause-err : goal.returns-in_err-next-clause-err
returns-in_err-next-clause-err g c =
    let p = err_from_is_err_and c.from_residual.result c.from_residual.ensures.1 in
    let a : SessionState × g.H.Host.Seen = (c.args.conversation.now.session, g.H.Host.seen c.args.host.now) in
    let held = c.args.conversation.now.bytes ++ c.args.bytes.now in
    rw (p.1, p.2) (record { side = a; rest = held; answers = answers_none g.H.Host.steps a held c.answer_next.new.answer.items (c.in_err-next.ensures.same ∙ c.requires.empty); cause = c.in_err-next.ensures.err })

pub loop-init : goal.loop-init
loop-init g c =
    let a : SessionState × g.H.Host.Seen = (c.args.conversation.now.session, g.H.Host.seen c.args.host.now) in
    let b : SessionState × g.H.Host.Seen = (c.answer_next.new.conversation.session, g.H.Host.seen c.answer_next.new.host) in
    let held = c.args.conversation.now.bytes in
    let next = c.in_ok-next.ensures.ok in
    let on = answers_turn g.H.Host.steps a held c.args.bytes.now c.args.answer.now.items held a c.in_ok-next.next next.0 b c.answer_next.new.conversation.bytes c.answer_next.new.answer.items
    c.requires.going (answers_none g.H.Host.steps a held c.args.answer.now.items c.requires.empty) next.1 next.2 in
    (on.0, on.1, on.2)

pub returns-in_err-next-in-GoesOn-clause-err : goal.returns-in_err-next-in-GoesOn-clause-err
returns-in_err-next-in-GoesOn-clause-err g c =
    let p = err_from_is_err_and c.from_residual-in_err-next-in-GoesOn.result c.from_residual-in_err-next-in-GoesOn.ensures.1 in
    let a : SessionState × g.H.Host.Seen = (c.args.conversation.now.session, g.H.Host.seen c.args.host.now) in
    let b : SessionState × g.H.Host.Seen = (c.loop.conversation.session, g.H.Host.seen c.loop.host) in
    let came = c.args.conversation.now.bytes ++ c.args.bytes.now in
    let held = c.loop.conversation.bytes in
    rw (p.1, p.2) (record {
      side = b;
      rest = held;
      answers = subst (λ (l : List ℕ). AnswersAll g.H.Host.steps a came l b held) (sym c.in_err-next-in-GoesOn.ensures.same) c.loop.invariant.0;
      cause = subst (λ (l : List ℕ). RefusesFeed g.H.Host.steps b l c.in_err-next-in-GoesOn.field-0.0 (g.H.Host.seen c.answer_next-in-GoesOn.new.host)) (append-nil held) c.in_err-next-in-GoesOn.ensures.err;
    })

pub loop-preserved : goal.loop-preserved
loop-preserved g c =
    let a : SessionState × g.H.Host.Seen = (c.args.conversation.now.session, g.H.Host.seen c.args.host.now) in
    let b : SessionState × g.H.Host.Seen = (c.loop.conversation.session, g.H.Host.seen c.loop.host) in
    let k : SessionState × g.H.Host.Seen = (c.answer_next-in-GoesOn.new.conversation.session, g.H.Host.seen c.answer_next-in-GoesOn.new.host) in
    let came = c.args.conversation.now.bytes ++ c.args.bytes.now in
    let next = c.in_ok-next-in-GoesOn.ensures.ok in
    let rest = c.answer_next-in-GoesOn.new.conversation.bytes in
    let after = c.answer_next-in-GoesOn.new.answer.items in
    let none : List ℕ = [] in
    let on = answers_turn g.H.Host.steps a came none c.loop.answer.items c.loop.conversation.bytes b c.in_ok-next-in-GoesOn.next next.0 k rest after
    (c.loop.invariant.1 ∙ ap has_ended c.in-GoesOn.is) c.loop.invariant.0 next.1 next.2 in
    (subst (λ (l : List ℕ). AnswersAll g.H.Host.steps a l after k rest) (append-nil came) on.0, on.1, on.2)

-- as many frames as can be counted came
pub returns-clause-err : goal.returns-clause-err
returns-clause-err g c = record {
  side = (c.loop.conversation.session, g.H.Host.seen c.loop.host);
  rest = c.loop.conversation.bytes;
  answers = c.loop.invariant.0;
  cause = inl (inl refl, refl);
}
