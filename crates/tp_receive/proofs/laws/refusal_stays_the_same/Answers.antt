use Rattle.tp_receive.proofs.CausesLaws.{same-stays}
use Rattle.tp_receive.proofs.laws.refusal_stays_the_same.Goals as goal

pub returns : goal.returns
returns c = same-stays
