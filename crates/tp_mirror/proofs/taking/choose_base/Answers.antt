use Rattle.tp_mirror.proofs.Bases.{base-moved}
use Rattle.tp_mirror.proofs.taking.choose_base.Goals as goal

pub returns-in-Some-clause-base : goal.returns-in-Some-clause-base
returns-in-Some-clause-base g c = base-moved g.W.Workspace.is_far c.args.state.now _ _ c.args.source _ c.args.text c.base_of_moved.result c.in-Away.is c.as_slice.ensures c.in-Some.ensures.at c.base_of_moved.ensures.base
