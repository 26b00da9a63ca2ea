use Rattle.tp_world.proofs.Common.{event_of, world_of}
use Rattle.tp_world.proofs.Verdicts.{judges_entry}
use Rattle.tp_world.proofs.verdict.has_entry.Goals as goal

pub returns : goal.returns
returns c = judges_entry (world_of c.args.state.now) (event_of c.args.event.now) c.deref.result.now _ c.is_sent.result c.deref.ensures.value c.entry_of.ensures c.is_sent.ensures
