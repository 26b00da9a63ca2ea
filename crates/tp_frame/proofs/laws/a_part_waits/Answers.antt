use Rattle.tp_frame.proofs.StreamLaws.{part_waits}
use Rattle.tp_frame.proofs.laws.a_part_waits.Goals as goal

pub returns : goal.returns
returns c = part_waits
