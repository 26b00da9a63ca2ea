use Rattle.tp_document.proofs.Common.{Some, None, subst, refl, DocState, HasPosition}
use Rattle.tp_snapshot.proofs.ShowingLaws.{DocumentInvariant-position}
use Rattle.tp_document.proofs.document.Document.cursor_position.Goals as goal

pub returns-in-Some : goal.returns-in-Some
returns-in-Some g c =
    let S = g.S.Sequence in
    subst (λ (d : DocState). HasPosition d.applied c.args.cursor.now.element (Some c.in-Some.at)) c.self.view_is
    (DocumentInvariant-position c.self.inside.graph.applied (S.placed c.self.inside.sequence) (S.removals c.self.inside.sequence) c.args.cursor.now.element (Some c.in-Some.at) c.self.invariant c.in-Some.ensures)

pub returns-in-None : goal.returns-in-None
returns-in-None g c =
    let S = g.S.Sequence in (
      subst (λ (d : DocState). HasPosition d.applied c.args.cursor.now.element None) c.self.view_is
          (DocumentInvariant-position c.self.inside.graph.applied (S.placed c.self.inside.sequence) (S.removals c.self.inside.sequence) c.args.cursor.now.element None c.self.invariant c.in-None.ensures),
      refl,
    )
