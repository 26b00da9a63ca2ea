use Rattle.tp_receive.proofs.ResultLaws.{results}
use Rattle.tp_receive.proofs.laws.a_whole_run_is_a_result.Goals as goal

pub returns : goal.returns
returns g c = results g.K.Keeper.keeps
