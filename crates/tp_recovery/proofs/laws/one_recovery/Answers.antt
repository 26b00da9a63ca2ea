use Rattle.tp_recovery.proofs.RecoveryLaws.{recovers_once}
use Rattle.tp_recovery.proofs.laws.one_recovery.Goals as goal

pub returns : goal.returns
returns c = recovers_once
