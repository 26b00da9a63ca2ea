use Rattle.tp_world.proofs.JudgeLaws.{there_one}
use Rattle.tp_world.proofs.judging.is_sent.Goals as goal

pub returns-in-Some : goal.returns-in-Some
returns-in-Some c = there_one c.args.wire.now c.in-Some.n c.args.number c.in-Some.is
