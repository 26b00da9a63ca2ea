use Rattle.tp_receive.proofs.GrowsLaws.{Between-grown}
use Rattle.tp_receive.proofs.laws.grown_between.Goals as goal

pub returns : goal.returns
returns c = Between-grown
