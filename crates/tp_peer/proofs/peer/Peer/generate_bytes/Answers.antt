use Rattle.std.specs.Prelude.{Option}
use Rattle.tp_peer.specs.declared.exchanged.Outgoing.{Outgoing}
use Rattle.tp_peer.specs.Sent.{sent_of}
use Rattle.tp_peer.proofs.Common.{Generate, Generated, Bool, Call, Reply, false, peer_state, refl, reply_of_result, stops}
use Rattle.tp_peer.proofs.RunningLaws.{outcome_runs, running_leaves_peer, running_steps, stopped_steps}
use Rattle.tp_peer.proofs.peer.Peer.generate_bytes.Goals as goal

pub returns-then-self-clause-step : goal.returns-then-self-clause-step
returns-then-self-clause-step g c = stopped_steps _ c.args.self.now (Generate c.args.link.0) refl c.self.view_is c.if-self.true

pub invariant_of-self : goal.invariant_of-self
invariant_of-self g c =
    let s = c.self.inside in
    let new = c.generate_on-sent.new in
    let call : Call = Generate c.args.link.0 in
    let reply : Reply = reply_of_result (λ (sent : Option Outgoing). Generated (sent_of sent)) c.generate_on-sent.result in
    running_leaves_peer s.actor s.document s.document s.links.known new.links.known s.appender new.appender s.stopped c.stops-self-inside.result (stops c.generate_on-sent.result) call reply c.self.invariant c.if-self.false c.stops-self-inside.ensures
    (outcome_runs (λ (sent : Option Outgoing). Generated (sent_of sent)) c.generate_on-sent.result (peer_state s.actor s.document s.links.known s.appender false) call (λ (b : Bool). peer_state s.actor s.document new.links.known new.appender b) (c.generate_on-sent.ensures.ok s.actor) (c.generate_on-sent.ensures.err s.actor))

pub returns-clause-step : goal.returns-clause-step
returns-clause-step g c =
    let s = c.self.inside in
    let new = c.generate_on-sent.new in
    let call : Call = Generate c.args.link.0 in
    let reply : Reply = reply_of_result (λ (sent : Option Outgoing). Generated (sent_of sent)) c.generate_on-sent.result in
    running_steps c.args.self.now s.actor s.document s.document s.links.known new.links.known s.appender new.appender s.stopped c.stops-self-inside.result (stops c.generate_on-sent.result) call reply refl c.self.view_is c.if-self.false c.stops-self-inside.ensures
    (outcome_runs (λ (sent : Option Outgoing). Generated (sent_of sent)) c.generate_on-sent.result (peer_state s.actor s.document s.links.known s.appender false) call (λ (b : Bool). peer_state s.actor s.document new.links.known new.appender b) (c.generate_on-sent.ensures.ok s.actor) (c.generate_on-sent.ensures.err s.actor))
