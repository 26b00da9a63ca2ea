use Rattle.tp_recovery.proofs.RecoveryLaws.{recovers_or_refused}
use Rattle.tp_recovery.proofs.laws.refused_or_recovered.Goals as goal

pub returns : goal.returns
returns c = recovers_or_refused
