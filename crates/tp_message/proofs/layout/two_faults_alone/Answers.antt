use Rattle.tp_message.proofs.FaultLaws.{message_faults}
use Rattle.tp_message.proofs.layout.two_faults_alone.Goals as goal

pub returns : goal.returns
returns c = message_faults
