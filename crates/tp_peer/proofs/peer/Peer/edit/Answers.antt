use Rattle.std.specs.Str.{chars}
use Rattle.tp_peer.proofs.Common.{DoesSplices, Edit, IfOk, Made, PeerState, subst, Bool, Call, Reply, false, peer_state, refl, reply_of_result, stops}
use Rattle.tp_peer.proofs.RunningLaws.{edit_does, outcome_runs, running_leaves_peer, running_steps, stopped_steps}
use Rattle.tp_peer.proofs.peer.Peer.edit.Goals as goal

pub returns-then-self-clause-step : goal.returns-then-self-clause-step
returns-then-self-clause-step g c = stopped_steps _ c.args.self.now (Edit c.args.splices.now c.args.time (chars c.args.message.now)) refl c.self.view_is c.if-self.true

pub invariant_of-self : goal.invariant_of-self
invariant_of-self g c =
    let s = c.self.inside in
    let new = c.edit_on-made.new in
    let call : Call = Edit c.args.splices.now c.args.time (chars c.args.message.now) in
    let reply : Reply = reply_of_result (Made) c.edit_on-made.result in
    running_leaves_peer s.actor s.document new.document s.links.known s.links.known s.appender new.appender s.stopped c.stops-self-inside.result (stops c.edit_on-made.result) call reply c.self.invariant c.if-self.false c.stops-self-inside.ensures
    (outcome_runs (Made) c.edit_on-made.result (peer_state s.actor s.document s.links.known s.appender false) call (λ (b : Bool). peer_state s.actor new.document s.links.known new.appender b) (c.edit_on-made.ensures.ok s.links.known) (c.edit_on-made.ensures.err s.links.known))

pub returns-clause-step : goal.returns-clause-step
returns-clause-step g c =
    let s = c.self.inside in
    let new = c.edit_on-made.new in
    let call : Call = Edit c.args.splices.now c.args.time (chars c.args.message.now) in
    let reply : Reply = reply_of_result (Made) c.edit_on-made.result in
    running_steps c.args.self.now s.actor s.document new.document s.links.known s.links.known s.appender new.appender s.stopped c.stops-self-inside.result (stops c.edit_on-made.result) call reply refl c.self.view_is c.if-self.false c.stops-self-inside.ensures
    (outcome_runs (Made) c.edit_on-made.result (peer_state s.actor s.document s.links.known s.appender false) call (λ (b : Bool). peer_state s.actor new.document s.links.known new.appender b) (c.edit_on-made.ensures.ok s.links.known) (c.edit_on-made.ensures.err s.links.known))

pub returns-clause-text : goal.returns-clause-text
returns-clause-text g c =
    let s = c.self.inside in
    let new = c.edit_on-made.new in
    let call : Call = Edit c.args.splices.now c.args.time (chars c.args.message.now) in
    let r = c.edit_on-made.result in
    let p : PeerState = peer_state s.actor s.document s.links.known s.appender s.stopped in
    let p' : PeerState = peer_state s.actor new.document s.links.known new.appender c.stops-self-inside.result in
    subst (λ (x : PeerState). IfOk r (λ made. DoesSplices x.applied p'.applied c.args.splices.now)) c.self.view_is
    (edit_does r p p' c.args.splices.now c.args.time (chars c.args.message.now) c.self.invariant
    (running_steps p s.actor s.document new.document s.links.known s.links.known s.appender new.appender s.stopped c.stops-self-inside.result (stops r) call (reply_of_result Made r) refl refl c.if-self.false c.stops-self-inside.ensures
    (outcome_runs Made r (peer_state s.actor s.document s.links.known s.appender false) call (λ (b : Bool). peer_state s.actor new.document s.links.known new.appender b) (c.edit_on-made.ensures.ok s.links.known) (c.edit_on-made.ensures.err s.links.known))))
