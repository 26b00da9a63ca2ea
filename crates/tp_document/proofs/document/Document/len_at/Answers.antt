use Rattle.tp_document.proofs.Common.{subst, past, DocState, HasLength}
use Rattle.tp_snapshot.proofs.PastElements.{past-length}
use Rattle.tp_document.proofs.document.Document.len_at.Goals as goal

pub returns-clause-len : goal.returns-clause-len
returns-clause-len g c =
    let S = g.S.Sequence in
    let d = c.self.inside in
    let H = c.args.heads.now in
    subst (λ (d : DocState). HasLength (past d.applied H) c.len.result) c.self.view_is
    (past-length d.graph.applied (S.placed d.sequence) (S.removals d.sequence) H c.in_ok-snapshot.snapshot.clock c.len.result c.self.invariant c.in_ok-snapshot.ensures.ends c.len.ensures)
