use Rattle.tp_document.proofs.Common.{subst, chars, string_bytes, IsTextOf, past, DocState}
use Rattle.tp_snapshot.proofs.PastElements.{past-bytes}
use Rattle.tp_document.proofs.document.Document.text_at.Goals as goal

pub returns-clause-text : goal.returns-clause-text
returns-clause-text g c =
    let S = g.S.Sequence in
    let d = c.self.inside in
    let H = c.args.heads.now in
    let bytes = string_bytes c.in_ok-text.field-0 in
    subst (λ (d : DocState). IsTextOf (past d.applied H) (chars bytes)) c.self.view_is
    (past-bytes d.graph.applied (S.placed d.sequence) (S.removals d.sequence) H c.in_ok-snapshot.snapshot.clock bytes c.self.invariant c.in_ok-snapshot.ensures.ends c.in_ok-text.ensures)
