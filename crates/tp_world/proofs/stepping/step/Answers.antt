use Rattle.tp_world.proofs.Common.{world_of, event_of, event_reply_of}
use Rattle.tp_world.proofs.Steps.{meets_next, refused_next}
use Rattle.tp_world.proofs.stepping.step.Goals as goal

pub returns-in-Err : goal.returns-in-Err
returns-in-Err c = refused_next (world_of c.args.state.now) (event_of c.args.event.now) c.in-Err.why c.in-Err.ensures.err

pub returns : goal.returns
returns c =
    meets_next (world_of c.args.state.now) (event_of c.args.event.now) (event_reply_of c.happen.result) (world_of c.happen.new.self) c.in-Ok.ensures.may c.happen.ensures
