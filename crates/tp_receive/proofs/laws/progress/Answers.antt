use Rattle.tp_receive.proofs.RunLaws.{progress}
use Rattle.tp_receive.proofs.laws.progress.Goals as goal

pub returns : goal.returns
returns g c = progress g.K.Keeper.keeps
