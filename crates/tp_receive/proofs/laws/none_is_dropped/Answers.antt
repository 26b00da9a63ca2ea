use Rattle.tp_receive.proofs.RunLaws.{none_dropped}
use Rattle.tp_receive.proofs.laws.none_is_dropped.Goals as goal

pub returns : goal.returns
returns g c = none_dropped g.K.Keeper.keeps
