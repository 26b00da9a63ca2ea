use Rattle.tp_peer.proofs.PeerLaws.{torn}
use Rattle.tp_peer.proofs.laws.a_stop_is_between.Goals as goal

pub returns : goal.returns
returns c = torn
