use Rattle.tp_mirror.proofs.Places.{base_found}
use Rattle.tp_mirror.proofs.base.base_at.Goals as goal

pub returns-then-at-texts : goal.returns-then-at-texts
returns-then-at-texts g c = base_found g.W.Workspace.is_far c.args._own c.args.texts.now c.args._text c.args.near c.in-Some.at c.index-texts-at.result c.in_ok-text-in-Some.text c.requires c.in-Some.ensures.found c.if-at-texts.true c.index-texts-at.is c.in_ok-text-in-Some.ensures
