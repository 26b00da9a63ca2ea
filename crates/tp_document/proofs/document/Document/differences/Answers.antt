use Rattle.tp_document.proofs.Common.{subst, past, DocState}
use Rattle.tp_snapshot.specs.Differences.{AreDifferences, LeadsTo}
use Rattle.tp_document.proofs.document.Document.differences.Goals as goal

pub returns-clause-each : goal.returns-clause-each
returns-clause-each g c =
    subst (λ (d : DocState). AreDifferences d.applied (past d.applied c.args.from.now) (past d.applied c.args.to.now) c.in_ok-differences_between.field-0.items) c.self.view_is
    c.in_ok-differences_between.ensures.each

pub returns-clause-leads : goal.returns-clause-leads
returns-clause-leads g c =
    subst (λ (d : DocState). LeadsTo (past d.applied c.args.from.now) (past d.applied c.args.to.now) c.in_ok-differences_between.field-0.items) c.self.view_is
    c.in_ok-differences_between.ensures.leads
