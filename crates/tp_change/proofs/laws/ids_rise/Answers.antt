use Rattle.tp_change.proofs.OpsLaws.{ops_rise}
use Rattle.tp_change.proofs.laws.ids_rise.Goals as goal

pub returns : goal.returns
returns c = ops_rise
