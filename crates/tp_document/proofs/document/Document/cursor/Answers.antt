use Rattle.tp_document.proofs.Common.{Some, None, subst, refl, DocState, HasElementAt}
use Rattle.tp_snapshot.proofs.ShowingLaws.{DocumentInvariant-element}
use Rattle.tp_document.proofs.document.Document.cursor.Goals as goal

pub returns-in-Some : goal.returns-in-Some
returns-in-Some g c =
    let S = g.S.Sequence in
    subst (λ (d : DocState). HasElementAt d.applied c.args.at (Some c.in-Some.element)) c.self.view_is
    (DocumentInvariant-element c.self.inside.graph.applied (S.placed c.self.inside.sequence) (S.removals c.self.inside.sequence) c.args.at (Some c.in-Some.element) c.self.invariant c.in-Some.ensures)

pub returns-in-None : goal.returns-in-None
returns-in-None g c =
    let S = g.S.Sequence in (
      subst (λ (d : DocState). HasElementAt d.applied c.args.at None) c.self.view_is
          (DocumentInvariant-element c.self.inside.graph.applied (S.placed c.self.inside.sequence) (S.removals c.self.inside.sequence) c.args.at None c.self.invariant c.in-None.ensures),
      refl,
    )
