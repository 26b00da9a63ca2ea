use Rattle.tp_peer.proofs.PeerLaws.{edit_actor}
use Rattle.tp_peer.proofs.laws.an_edit_bears_the_actor.Goals as goal

pub returns : goal.returns
returns c = edit_actor
