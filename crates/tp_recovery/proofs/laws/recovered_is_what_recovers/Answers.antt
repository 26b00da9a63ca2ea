use Rattle.tp_recovery.proofs.RecoveredLaws.{recovered_again, recovered_takes}
use Rattle.tp_recovery.proofs.laws.recovered_is_what_recovers.Goals as goal

pub returns : goal.returns
returns c = record { gives = recovered_again; only = recovered_takes }
