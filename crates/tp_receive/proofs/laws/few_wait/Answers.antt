use Rattle.tp_receive.proofs.ResultLaws.{few_wait}
use Rattle.tp_receive.proofs.laws.few_wait.Goals as goal

pub returns : goal.returns
returns g c = λ k C W L t space. few_wait g.K.Keeper.keeps k C W L t space
