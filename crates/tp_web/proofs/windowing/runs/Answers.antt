use Rattle.tp_web.proofs.Attending.{one_turn}
use Rattle.tp_web.proofs.windowing.runs.Goals as goal

pub returns : goal.returns
returns g c = one_turn c.args.seat.now c.visit.new.seat c.args.window.now.actor c.visit.ensures.served c.visit.ensures.visits
