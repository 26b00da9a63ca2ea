-- The world that its parts make.
use Rattle.tp_event.specs.Common.{World}
use Rattle.tp_event.specs.declared.state.State.{State}

abbrev pub world_of : State → World
world_of s = record { id = s.id; peers = s.peers.items; wire = s.wire.items; made = s.made.items; used = s.used.items; reads = s.reads.items }
