use Rattle.tp_history.proofs.SoundLaws.{deps_first}
use Rattle.tp_history.proofs.ReachLaws.{InPast-from_past, past-from_InPast}
use Rattle.tp_history.proofs.laws.past_is_what_is_reached.Goals as goal

pub returns : goal.returns
returns c = λ C H c s. (InPast-from_past C H c, past-from_InPast C H (deps_first C s) c)
