use Rattle.std.proofs.Common.{subst, List}
use Rattle.tp_layout.specs.declared.parts.ChangeParts.{ChangeParts}
use Rattle.tp_window.specs.Outcomes.{HasShown}
use Rattle.tp_window.proofs.AnswerLaws.{shows_same}
use Rattle.tp_window.proofs.window.Window.answer_text.Goals as goal

pub returns-clause-answered : goal.returns-clause-answered
returns-clause-answered g c =
    let p' = c.does.new.peer in
    record {
      request = c.in_ok-request.request;
      outcome = c.in_ok-outcome.outcome;
      answer = c.in_ok-answer_of.field-0;
      does = c.does.ensures.does;
      comes = c.in_ok-outcome.ensures.outcome;
      shows = shows_same c.args.self.now c.document.result.now.id p'.id c.document.result.now.applied p'.applied c.in_ok-outcome.outcome c.in_ok-answer_of.field-0
          c.document.ensures.id c.document.ensures.applied c.in_ok-answer_of.ensures;
      has = subst (λ (D : List ChangeParts). HasShown D c.in_ok-outcome.outcome c.in_ok-heads.heads) c.document-2.ensures.applied c.in_ok-heads.ensures.ok;
    }
