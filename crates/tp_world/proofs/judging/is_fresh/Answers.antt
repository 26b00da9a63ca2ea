use Rattle.tp_world.proofs.JudgeLaws.{fresh_one}
use Rattle.tp_world.proofs.judging.is_fresh.Goals as goal

pub returns-in-Some : goal.returns-in-Some
returns-in-Some c = fresh_one c.args.used.now c.in-Some.actor c.args.actor c.is_named.result c.in-Some.is c.is_named.ensures
