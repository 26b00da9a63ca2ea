use Rattle.tp_peer.proofs.StepLaws.{step_leaves_peer}
use Rattle.tp_peer.proofs.laws.a_step_leaves_a_peer.Goals as goal

pub returns : goal.returns
returns c = step_leaves_peer
