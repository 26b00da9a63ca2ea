use Rattle.tp_document.proofs.Common.{Some, None, inr, subst, refl, past, DocState, HasElementAt}
use Rattle.tp_snapshot.proofs.PastElements.{past-element}
use Rattle.tp_document.proofs.document.Document.cursor_at.Goals as goal

pub returns-in-Some-clause-found : goal.returns-in-Some-clause-found
returns-in-Some-clause-found g c =
    let S = g.S.Sequence in
    let d = c.self.inside in
    let H = c.args.heads.now in
    subst (λ (d : DocState). HasElementAt (past d.applied H) c.args.at (Some c.in-Some.element)) c.self.view_is
    (past-element d.graph.applied (S.placed d.sequence) (S.removals d.sequence) H c.in_ok-snapshot.snapshot.clock c.args.at (Some c.in-Some.element) c.self.invariant c.in_ok-snapshot.ensures.ends c.in-Some.ensures)

pub returns-clause-err : goal.returns-clause-err
returns-clause-err g c =
    let S = g.S.Sequence in
    let d = c.self.inside in
    let H = c.args.heads.now in
    inr (inr (
      refl,
      subst (λ (d : DocState). HasElementAt (past d.applied H) c.args.at None) c.self.view_is
          (past-element d.graph.applied (S.placed d.sequence) (S.removals d.sequence) H c.in_ok-snapshot.snapshot.clock c.args.at None c.self.invariant c.in_ok-snapshot.ensures.ends c.in-None.ensures),
    ))
