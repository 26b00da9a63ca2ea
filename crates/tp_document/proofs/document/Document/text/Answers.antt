use Rattle.tp_document.proofs.Common.{subst, chars, string_bytes, IsTextOf, DocState}
use Rattle.tp_snapshot.proofs.ShowingLaws.{DocumentInvariant-bytes}
use Rattle.tp_document.proofs.document.Document.text.Goals as goal

pub returns-clause-text : goal.returns-clause-text
returns-clause-text g c =
    let S = g.S.Sequence in
    subst (λ (d : DocState). IsTextOf d.applied (chars (string_bytes c.in_ok-text.field-0))) c.self.view_is
    (DocumentInvariant-bytes c.self.inside.graph.applied (S.placed c.self.inside.sequence) (S.removals c.self.inside.sequence) (string_bytes c.in_ok-text.field-0) c.self.invariant c.in_ok-text.ensures)
