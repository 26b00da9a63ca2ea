use Rattle.tp_receive.proofs.RunLaws.{nothing_lost}
use Rattle.tp_receive.proofs.laws.nothing_is_lost.Goals as goal

pub returns : goal.returns
returns g c = nothing_lost g.K.Keeper.keeps
