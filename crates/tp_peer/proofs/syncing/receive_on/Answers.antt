use Rattle.tp_peer.proofs.Common.{false, ℕ, List, sym, subst, IfErr, IfOk, PeerState, peer_state, is_failed, ReceivesMessage, RefusesReceive, report_of}
use Rattle.tp_peer.proofs.syncing.receive_on.Goals as goal

pub returns-clause-ok : goal.returns-clause-ok
returns-clause-ok g c = λ actor.
    let p : PeerState = peer_state actor c.args.document.now c.args.links.now.known c.args.appender.now false in
    let new = c.receive_message_on.new in
    let p' : PeerState = peer_state actor new.document new.links.known new.appender false in
    subst (λ (bytes : List ℕ). IfOk c.receive_message_on.result (λ r. ReceivesMessage p c.args.link.0 bytes (report_of r.applied) r.same_heads p')) (sym c.in_ok-message.ensures.ok) (c.receive_message_on.ensures.ok actor)

pub returns-clause-err : goal.returns-clause-err
returns-clause-err g c = λ actor.
    let p : PeerState = peer_state actor c.args.document.now c.args.links.now.known c.args.appender.now false in
    let new = c.receive_message_on.new in
    subst (λ (bytes : List ℕ). IfErr c.receive_message_on.result (λ e. RefusesReceive p c.args.link.0 bytes e (peer_state actor new.document new.links.known new.appender (is_failed e)))) (sym c.in_ok-message.ensures.ok) (c.receive_message_on.ensures.err actor)
