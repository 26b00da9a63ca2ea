use Rattle.tp_peer.proofs.Common.{refl, ap, sym, subst, ◌∙◌, PeerState, peer_state, Heads, PeerStep, ReadHeads}
use Rattle.tp_peer.proofs.StepLaws.{step_runs, step_stopped}
use Rattle.tp_peer.proofs.peer.Peer.heads.Goals as goal

pub returns-then-self : goal.returns-then-self
returns-then-self g c = step_stopped c.args.self.now ReadHeads (ap (λ (p : PeerState). p.stopped) (sym c.self.view_is) ∙ c.if-self.true)

pub returns : goal.returns
returns g c =
    let s = c.self.inside in
    let p : PeerState = peer_state s.actor s.document s.links.known s.appender s.stopped in
    subst (λ (q : PeerState). PeerStep q ReadHeads (Heads c.heads.result.now) q) c.self.view_is
    (step_runs p ReadHeads (Heads c.heads.result.now) p c.if-self.false (c.heads.ensures, refl))
