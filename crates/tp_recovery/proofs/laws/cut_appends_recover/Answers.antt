use Rattle.tp_recovery.proofs.CutLaws.{recovers_cut}
use Rattle.tp_recovery.proofs.laws.cut_appends_recover.Goals as goal

pub returns : goal.returns
returns c = recovers_cut
