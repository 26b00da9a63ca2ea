use Rattle.tp_session.proofs.Common.{Ok, arith, ReadsGiven}
use Rattle.tp_session.proofs.ReadingLaws.{hears_message, hears_none}
use Rattle.tp_session.proofs.session.Session.on_end.Goals as goal

pub returns-in-Ok-clause-step : goal.returns-in-Ok-clause-step
returns-in-Ok-clause-step g c = λ s frame is all.
    let reads : ReadsGiven frame (Ok c.in-Some.reader) = grind arith in
    grind (arith, c.in-Ok.ensures frame reads all, hears_message g.H.Host.steps s frame.given c.in-Ok.message)

pub returns-in-Err-clause-step : goal.returns-in-Err-clause-step
returns-in-Err-clause-step g c = λ s frame is all.
    let reads : ReadsGiven frame (Ok c.in-Some.reader) = grind arith in
    grind (arith, hears_none g.H.Host.steps s frame.given c.in-Err.error (g.H.Host.seen c.args.host.now) c.fail.result c.fail.new.self (c.in-Err.ensures frame reads all))
