use Rattle.tp_sync.proofs.Common.{inr}
use Rattle.tp_sync.proofs.exchanging.reply.Goals as goal

pub returns-in-Err-close-clause-err : goal.returns-in-Err-close-clause-err
returns-in-Err-close-clause-err g c =
    inr (record { answered = c.speak.new.ours; knows = c.speak.new.theirs; into_a = c.in-Ok.into_a.applied; second = c.in-Ok.ensures.passes; fails = c.in-Err-close.ensures.err })
