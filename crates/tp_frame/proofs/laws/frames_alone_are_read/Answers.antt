use Rattle.tp_frame.proofs.StreamLaws.{read_alone}
use Rattle.tp_frame.proofs.laws.frames_alone_are_read.Goals as goal

pub returns : goal.returns
returns c = read_alone
