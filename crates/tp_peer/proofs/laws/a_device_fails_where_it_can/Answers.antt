use Rattle.tp_peer.proofs.PeerLaws.{fails_where_it_can}
use Rattle.tp_peer.proofs.laws.a_device_fails_where_it_can.Goals as goal

pub returns : goal.returns
returns c = fails_where_it_can
