-- What is seen of a peer of a world.
use Rattle.tp_event.specs.Common.{PeerState}
use Rattle.tp_event.specs.declared.member.Life.{Life}
use Rattle.tp_event.specs.declared.member.Life.TheVariants.{Running, Stopped}
use Rattle.tp_event.specs.Members.{left_with}

abbrev pub member_state : Life → PeerState
member_state (Running peer) = peer
member_state (Stopped id actor journal) = left_with id actor journal.content
