use Rattle.tp_receive.proofs.ResultLaws.{between}
use Rattle.tp_receive.proofs.laws.a_stop_is_between.Goals as goal

pub returns : goal.returns
returns g c = between g.K.Keeper.keeps g.K.Keeper.refuses
