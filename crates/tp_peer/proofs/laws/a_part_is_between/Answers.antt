use Rattle.tp_peer.proofs.PeerLaws.{partial}
use Rattle.tp_peer.proofs.laws.a_part_is_between.Goals as goal

pub returns : goal.returns
returns c = partial
