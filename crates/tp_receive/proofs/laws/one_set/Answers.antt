use Rattle.tp_receive.proofs.OneSetLaws.{one_set}
use Rattle.tp_receive.proofs.laws.one_set.Goals as goal

pub returns : goal.returns
returns c = one_set
