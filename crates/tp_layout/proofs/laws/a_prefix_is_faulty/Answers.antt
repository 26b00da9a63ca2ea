use Rattle.tp_layout.proofs.Blame.{some_prefix}
use Rattle.tp_layout.proofs.laws.a_prefix_is_faulty.Goals as goal

pub returns : goal.returns
returns c = λ bytes e fits size bad short ran. some_prefix bytes fits size e bad short ran
