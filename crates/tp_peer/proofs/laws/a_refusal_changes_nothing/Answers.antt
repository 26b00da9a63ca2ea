use Rattle.tp_peer.proofs.PeerLaws.{refusal_changes_nothing}
use Rattle.tp_peer.proofs.laws.a_refusal_changes_nothing.Goals as goal

pub returns : goal.returns
returns c = refusal_changes_nothing
