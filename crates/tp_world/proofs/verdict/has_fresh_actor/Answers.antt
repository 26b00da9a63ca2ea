use Rattle.tp_world.proofs.Common.{event_of, world_of}
use Rattle.tp_world.proofs.Verdicts.{judges_actor}
use Rattle.tp_world.proofs.verdict.has_fresh_actor.Goals as goal

pub returns : goal.returns
returns c = judges_actor (world_of c.args.state.now) (event_of c.args.event.now) c.deref.result.now _ c.is_fresh.result c.deref.ensures.value c.actor_of.ensures c.is_fresh.ensures
