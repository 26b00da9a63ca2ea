use Rattle.tp_world.proofs.Common.{event_of, world_of}
use Rattle.tp_world.proofs.Verdicts.{judges_peers}
use Rattle.tp_world.proofs.verdict.has_peers.Goals as goal

pub returns : goal.returns
returns c = judges_peers (world_of c.args.state.now) (event_of c.args.event.now) c.deref.result.now _ c.are_there.result c.deref.ensures.value c.peers_of.ensures c.are_there.ensures
