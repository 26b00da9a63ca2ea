use Rattle.tp_web.proofs.Attending.{one_turn}
use Rattle.tp_web.proofs.windowing.answer.Goals as goal

pub returns-in-Ok : goal.returns-in-Ok
returns-in-Ok g c = one_turn c.args.seat.now c.visit.new.seat c.args.window.now.actor c.visit.ensures.served c.visit.ensures.visits

pub returns-in-Err : goal.returns-in-Err
returns-in-Err g c = one_turn c.args.seat.now c.visit.new.seat c.args.window.now.actor c.visit.ensures.served c.visit.ensures.visits
