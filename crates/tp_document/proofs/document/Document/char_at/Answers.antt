use Rattle.tp_document.proofs.Common.{subst, DocState, HasCharAt}
use Rattle.tp_snapshot.proofs.ShowingLaws.{DocumentInvariant-char}
use Rattle.tp_document.proofs.document.Document.char_at.Goals as goal

pub returns : goal.returns
returns g c =
    let S = g.S.Sequence in
    subst (λ (d : DocState). HasCharAt d.applied c.args.at c.char_at.result) c.self.view_is
    (DocumentInvariant-char c.self.inside.graph.applied (S.placed c.self.inside.sequence) (S.removals c.self.inside.sequence) c.args.at c.char_at.result c.self.invariant c.char_at.ensures)
