use Rattle.tp_peer.proofs.AppendingLaws.{unsettled_tears}
use Rattle.tp_peer.proofs.appender.Appender.keep_settled.Goals as goal

pub returns-in-Err-settle-clause-err : goal.returns-in-Err-settle-clause-err
returns-in-Err-settle-clause-err g c = unsettled_tears _ c.keep.new.self _ c.args.change.now c.in-Ok.ensures.ok c.in-Err-settle.ensures.err
