use Rattle.tp_receive.proofs.RefusalLaws.{refused-stays}
use Rattle.tp_receive.proofs.laws.refusal_stays.Goals as goal

pub returns : goal.returns
returns c = refused-stays
