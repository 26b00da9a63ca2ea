use Rattle.tp_peer.proofs.StepLaws.{step_keeps}
use Rattle.tp_peer.proofs.laws.a_step_keeps.Goals as goal

pub returns : goal.returns
returns c = step_keeps
