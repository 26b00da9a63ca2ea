use Rattle.tp_recovery.proofs.RecoveryLaws.{refused_once}
use Rattle.tp_recovery.proofs.laws.one_refusal.Goals as goal

pub returns : goal.returns
returns c = refused_once
