use Rattle.tp_document.proofs.Common.{Some, None, inr, subst, refl, past, DocState, HasPosition}
use Rattle.tp_snapshot.proofs.PastElements.{past-position}
use Rattle.tp_document.proofs.document.Document.cursor_position_at.Goals as goal

pub returns-in-Some-clause-found : goal.returns-in-Some-clause-found
returns-in-Some-clause-found g c =
    let S = g.S.Sequence in
    let d = c.self.inside in
    let H = c.args.heads.now in
    let id = c.args.cursor.now.element in
    subst (λ (d : DocState). HasPosition (past d.applied H) id (Some c.in-Some.at)) c.self.view_is
    (past-position d.graph.applied (S.placed d.sequence) (S.removals d.sequence) H c.in_ok-snapshot.snapshot.clock id (Some c.in-Some.at) c.self.invariant c.in_ok-snapshot.ensures.ends c.in-Some.ensures)

pub returns-clause-err : goal.returns-clause-err
returns-clause-err g c =
    let S = g.S.Sequence in
    let d = c.self.inside in
    let H = c.args.heads.now in
    let id = c.args.cursor.now.element in
    inr (inr (
      refl,
      subst (λ (d : DocState). HasPosition (past d.applied H) id None) c.self.view_is
          (past-position d.graph.applied (S.placed d.sequence) (S.removals d.sequence) H c.in_ok-snapshot.snapshot.clock id None c.self.invariant c.in_ok-snapshot.ensures.ends c.in-None.ensures),
    ))
