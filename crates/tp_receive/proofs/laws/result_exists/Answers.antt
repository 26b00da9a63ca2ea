use Rattle.tp_receive.proofs.GrowsLaws.{receives-exists}
use Rattle.tp_receive.proofs.laws.result_exists.Goals as goal

pub returns : goal.returns
returns c = receives-exists
