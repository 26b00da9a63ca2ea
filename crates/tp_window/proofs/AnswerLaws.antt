-- What is answered, of a document that a peer holds.
use Rattle.std.proofs.Common.{◌≡◌, List, subst}
use Rattle.tp_layout.specs.declared.parts.ChangeParts.{ChangeParts}
use Rattle.tp_opid.specs.declared.doc_id.DocId.{DocId}
use Rattle.tp_window.specs.Outcomes.{ShowsOutcome}
use Rattle.tp_window.specs.declared.answer.Answer.{Answer}
use Rattle.tp_window.specs.declared.outcome.Outcome.{Outcome}
use Rattle.tp_window.specs.declared.window.Window.{Window}

-- what shows an outcome of a document shows it of the same
pub shows_same : (window : Window) (id id' : DocId) (C C' : List ChangeParts) (outcome : Outcome) (answer : Answer) → id ≡ id' → C ≡ C'
    → ShowsOutcome window id C outcome answer → ShowsOutcome window id' C' outcome answer
shows_same window id id' C C' outcome answer same grown shows =
    subst (λ (D : List ChangeParts). ShowsOutcome window id' D outcome answer) grown (subst (λ (i : DocId). ShowsOutcome window i C outcome answer) same shows)
