use Rattle.tp_event.proofs.Common.{arith, length-record_of}
use Rattle.tp_event.proofs.member.record_len.Goals as goal

pub returns : goal.returns
returns c = omega (arith, length-record_of c.args.change.now, c.encoded_len.ensures)
