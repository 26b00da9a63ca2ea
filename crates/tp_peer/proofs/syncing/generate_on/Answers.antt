use Rattle.tp_peer.proofs.Common.{false, sym, subst, IfOk, JournalState, peer_state, Speaks}
use Rattle.tp_peer.specs.Sent.{sent_of}
use Rattle.tp_peer.proofs.RunningLaws.{unmade_goes_on, unsettled_stops}
use Rattle.tp_peer.proofs.syncing.generate_on.Goals as goal

pub returns-in-Ok-clause-ok : goal.returns-in-Ok-clause-ok
returns-in-Ok-clause-ok g c = λ actor.
    subst (λ (k : JournalState). IfOk c.message_on.result (λ sent. Speaks (peer_state actor c.args.document.now c.args.links.now.known c.args.appender.now false) c.args.link.0 (sent_of sent) (peer_state actor c.args.document.now c.message_on.new.links.known k false)))
    (sym c.in-Ok.ensures.ok) (c.message_on.ensures.ok actor c.args.appender.now)

pub returns-in-Ok-clause-err : goal.returns-in-Ok-clause-err
returns-in-Ok-clause-err g c = λ actor.
    unmade_goes_on c.message_on.result actor c.args.document.now c.args.links.now.known c.message_on.new.links.known c.args.appender.now c.settle.new.self c.args.link.0 c.in-Ok.ensures.ok (c.message_on.ensures.err actor c.args.appender.now)

pub returns-in-Err-clause-err : goal.returns-in-Err-clause-err
returns-in-Err-clause-err g c = λ actor.
    unsettled_stops actor c.args.document.now c.args.links.now.known c.args.appender.now c.settle.new.self c.args.link.0 c.in-Err.error c.in-Err.ensures.only c.in-Err.ensures.err
