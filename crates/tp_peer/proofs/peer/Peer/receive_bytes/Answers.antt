use Rattle.tp_peer.specs.declared.exchanged.Received.{Received as ReceivedOf}
use Rattle.tp_peer.proofs.Common.{Receive, Received, report_of, Bool, Call, Reply, false, peer_state, refl, reply_of_result, stops}
use Rattle.tp_peer.proofs.RunningLaws.{outcome_runs, running_leaves_peer, running_steps, stopped_steps}
use Rattle.tp_peer.proofs.peer.Peer.receive_bytes.Goals as goal

pub returns-then-self : goal.returns-then-self
returns-then-self g c = stopped_steps _ c.args.self.now (Receive c.args.link.0 c.args.bytes.now) refl c.self.view_is c.if-self.true

pub invariant_of-self : goal.invariant_of-self
invariant_of-self g c =
    let s = c.self.inside in
    let new = c.receive_on-received.new in
    let call : Call = Receive c.args.link.0 c.args.bytes.now in
    let reply : Reply = reply_of_result (λ (r : ReceivedOf). Received (report_of r.applied) r.same_heads) c.receive_on-received.result in
    running_leaves_peer s.actor s.document new.document s.links.known new.links.known s.appender new.appender s.stopped c.stops-self-inside.result (stops c.receive_on-received.result) call reply c.self.invariant c.if-self.false c.stops-self-inside.ensures
    (outcome_runs (λ (r : ReceivedOf). Received (report_of r.applied) r.same_heads) c.receive_on-received.result (peer_state s.actor s.document s.links.known s.appender false) call (λ (b : Bool). peer_state s.actor new.document new.links.known new.appender b) (c.receive_on-received.ensures.ok s.actor) (c.receive_on-received.ensures.err s.actor))

pub returns : goal.returns
returns g c =
    let s = c.self.inside in
    let new = c.receive_on-received.new in
    let call : Call = Receive c.args.link.0 c.args.bytes.now in
    let reply : Reply = reply_of_result (λ (r : ReceivedOf). Received (report_of r.applied) r.same_heads) c.receive_on-received.result in
    running_steps c.args.self.now s.actor s.document new.document s.links.known new.links.known s.appender new.appender s.stopped c.stops-self-inside.result (stops c.receive_on-received.result) call reply refl c.self.view_is c.if-self.false c.stops-self-inside.ensures
    (outcome_runs (λ (r : ReceivedOf). Received (report_of r.applied) r.same_heads) c.receive_on-received.result (peer_state s.actor s.document s.links.known s.appender false) call (λ (b : Bool). peer_state s.actor new.document new.links.known new.appender b) (c.receive_on-received.ensures.ok s.actor) (c.receive_on-received.ensures.err s.actor))
