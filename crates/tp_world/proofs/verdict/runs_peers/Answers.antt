use Rattle.tp_world.proofs.Common.{event_of, world_of}
use Rattle.tp_world.proofs.Verdicts.{judges_running}
use Rattle.tp_world.proofs.verdict.runs_peers.Goals as goal

pub returns : goal.returns
returns c = judges_running (world_of c.args.state.now) (event_of c.args.event.now) c.deref.result.now _ c.are_running.result c.deref.ensures.value c.running_of.ensures c.are_running.ensures
