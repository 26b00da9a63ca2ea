use Rattle.tp_document.proofs.Common.{subst, ◌≤◌, length, DocState, AllChanges, most_changes}
use Rattle.tp_document.proofs.document.Document.changes.Goals as goal

pub returns-clause-limits : goal.returns-clause-limits
returns-clause-limits g c = subst (λ (d : DocState). AllChanges d.applied) c.self.view_is c.self.invariant.limits

pub returns-clause-few : goal.returns-clause-few
returns-clause-few g c = subst (λ (d : DocState). length d.applied ≤ most_changes) c.self.view_is c.self.invariant.few
