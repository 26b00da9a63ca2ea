use Rattle.tp_peer.proofs.PeerLaws.{complete}
use Rattle.tp_peer.proofs.laws.all_is_complete.Goals as goal

pub returns : goal.returns
returns c = complete
