use Rattle.tp_world.proofs.Common.{event_of, world_of}
use Rattle.tp_world.proofs.Verdicts.{passes_clash, refuses_clash}
use Rattle.tp_world.proofs.verdict.judge_making.Goals as goal

pub returns-then-clashes-clause-err : goal.returns-then-clashes-clause-err
returns-then-clashes-clause-err c =
    refuses_clash (world_of c.args.state.now) (event_of c.args.event.now) c.in-Ok.change c.clashes.result c.requires.carried c.in-Ok.ensures.ok c.clashes.ensures c.if-clashes.true c.requires.before

pub judge_met-requires : goal.judge_met-requires
judge_met-requires c =
    passes_clash (world_of c.args.state.now) (event_of c.args.event.now) c.in-Ok.change c.clashes.result c.requires.carried c.in-Ok.ensures.ok c.clashes.ensures c.if-clashes.false c.requires.before
