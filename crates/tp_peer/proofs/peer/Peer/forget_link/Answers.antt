use Rattle.tp_peer.proofs.Common.{Forget, Forgotten, List, SyncParts, ap, false, peer_state, refl, ℕ}
use Rattle.tp_peer.proofs.RunningLaws.{running_leaves_peer, running_steps, stopped_steps}
use Rattle.tp_peer.proofs.peer.Peer.forget_link.Goals as goal

pub returns-then-self : goal.returns-then-self
returns-then-self g c = stopped_steps _ c.args.self.now (Forget c.args.link.0) refl c.self.view_is c.if-self.true

pub invariant_of-self : goal.invariant_of-self
invariant_of-self g c =
    let s = c.self.inside in
    running_leaves_peer s.actor s.document s.document s.links.known c.forget.new.self.known s.appender s.appender s.stopped s.stopped false (Forget c.args.link.0) Forgotten c.self.invariant
    c.if-self.false c.if-self.false (ap (λ (L : List (ℕ × SyncParts)). peer_state s.actor s.document L s.appender false) c.forget.ensures)

pub returns : goal.returns
returns g c =
    let s = c.self.inside in
    running_steps c.args.self.now s.actor s.document s.document s.links.known c.forget.new.self.known s.appender s.appender s.stopped s.stopped false (Forget c.args.link.0) Forgotten refl c.self.view_is
    c.if-self.false c.if-self.false (ap (λ (L : List (ℕ × SyncParts)). peer_state s.actor s.document L s.appender false) c.forget.ensures)
