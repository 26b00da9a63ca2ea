use Rattle.tp_recovery.proofs.CutLaws.{recovers_beginning}
use Rattle.tp_recovery.proofs.laws.beginnings_recover.Goals as goal

pub returns : goal.returns
returns c = recovers_beginning
