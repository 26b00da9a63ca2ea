use Rattle.tp_document.proofs.Common.{subst, DocState, HasLength}
use Rattle.tp_snapshot.proofs.ShowingLaws.{DocumentInvariant-length}
use Rattle.tp_document.proofs.document.Document.len.Goals as goal

pub returns : goal.returns
returns g c =
    let S = g.S.Sequence in
    subst (λ (d : DocState). HasLength d.applied c.len.result) c.self.view_is
    (DocumentInvariant-length c.self.inside.graph.applied (S.placed c.self.inside.sequence) (S.removals c.self.inside.sequence) c.len.result c.self.invariant c.len.ensures)
