use Rattle.tp_peer.proofs.Common.{OutOfMemory, PeerState, PeerStep, Read, Refused, Text, peer_state, refl, subst}
use Rattle.std.specs.Str.{chars}
use Rattle.std.specs.String.{string_bytes}
use Rattle.tp_peer.proofs.RunningLaws.{stopped_steps}
use Rattle.tp_peer.proofs.StepLaws.{step_runs}
use Rattle.tp_peer.proofs.peer.Peer.read.Goals as goal

pub returns-then-self : goal.returns-then-self
returns-then-self g c = stopped_steps _ c.args.self.now Read refl c.self.view_is c.if-self.true

pub returns-in-Ok : goal.returns-in-Ok
returns-in-Ok g c =
    let s = c.self.inside in
    let p : PeerState = peer_state s.actor s.document s.links.known s.appender s.stopped in
    subst (λ (q : PeerState). PeerStep q Read (Text (chars (string_bytes c.in-Ok.text))) q) c.self.view_is (step_runs p Read (Text (chars (string_bytes c.in-Ok.text))) p c.if-self.false (c.in-Ok.ensures.text, refl))

pub returns-in-Err : goal.returns-in-Err
returns-in-Err g c =
    let s = c.self.inside in
    let p : PeerState = peer_state s.actor s.document s.links.known s.appender s.stopped in
    subst (λ (q : PeerState). PeerStep q Read (Refused OutOfMemory) q) c.self.view_is (step_runs p Read (Refused OutOfMemory) p c.if-self.false (refl, refl))
