-- The words of the crates below that several contracts cite, passed on from one place. Declares nothing.
pub use Rattle.std.specs.List.{list_any, slice_get}
pub use Rattle.tp_layout.specs.declared.parts.ChangeParts.{ChangeParts}
pub use Rattle.tp_headline.specs.Calling.{IsCall, heads_at, in_memory, noting}
pub use Rattle.tp_headline.specs.Event.{Event}
pub use Rattle.tp_headline.specs.Reply.{Answered, Peer, Refused, Reopened, EventReply, reply_to}
pub use Rattle.tp_headline.specs.World.{HasPeer, World, with_new_peer, with_peer, with_used}
pub use Rattle.tp_headline.specs.declared.error.WorldError.TheVariants.{OutOfMemory}
pub use Rattle.tp_opid.specs.declared.actor.Actor.{Actor}
pub use Rattle.tp_opid.specs.declared.hash.Hash.{Hash}
pub use Rattle.tp_peer.specs.PeerState.{PeerState, arming, disarming}
pub use Rattle.tp_peer.specs.declared.error.PeerError.{PeerError}
