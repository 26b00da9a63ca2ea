use Rattle.tp_frame.proofs.StreamLaws.{one_list}
use Rattle.tp_frame.proofs.laws.one_reading.Goals as goal

pub returns : goal.returns
returns c = one_list
