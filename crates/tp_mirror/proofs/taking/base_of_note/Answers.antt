use Rattle.tp_mirror.proofs.Bases.{base-empty, base-note}
use Rattle.tp_mirror.proofs.taking.base_of_note.Goals as goal

pub returns-then-distance-near-clause-base : goal.returns-then-distance-near-clause-base
returns-then-distance-near-clause-base g c =
    base-empty g.W.Workspace.is_far c.args.state.now c.as_slice-texts.result.now c.args.text c.in_ok-found.found c.in-Some.near c.empty-empty.result c.in_ok-distance.distance
    c.as_slice-texts.ensures c.in-Some.is c.in_ok-found.ensures.nearest c.if-state.true c.empty-empty.ensures c.in_ok-distance.ensures.far c.if-distance-near.true

pub returns-clause-base : goal.returns-clause-base
returns-clause-base g c =
    base-note g.W.Workspace.is_far c.args.state.now c.as_slice-texts.result.now c.args.text c.in-Some.near.distance c.in-Some.near.generation c.base_at.result c.as_slice-texts.ensures c.base_at.ensures
