use Rattle.tp_peer.proofs.PeerLaws.{recovers_running, recovers_stopped}
use Rattle.tp_peer.proofs.laws.a_peer_recovers.Goals as goal

pub returns-clause-running : goal.returns-clause-running
returns-clause-running c = recovers_running

pub returns-clause-stopped : goal.returns-clause-stopped
returns-clause-stopped c = recovers_stopped
