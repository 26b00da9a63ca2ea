use Rattle.tp_frame.proofs.PartLaws.{refused_again}
use Rattle.tp_frame.proofs.laws.a_refusal_is_answered_again.Goals as goal

pub returns : goal.returns
returns c = refused_again
