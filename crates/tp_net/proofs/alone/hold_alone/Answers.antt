use Rattle.std.proofs.Common.{rules, inl, inr, ⊎_elim}
use Rattle.tp_peer.specs.PeerState.{PeerState}
use Rattle.tp_net.specs.Sessions.{AttemptsSessionAlone}
use Rattle.tp_net.proofs.Counting.{meets_alone}
use Rattle.tp_net.proofs.alone.hold_alone.Goals as goal

-- the session counted what entered
pub returns-clause-meets : goal.returns-clause-meets
returns-clause-meets g c =
    let w = c.run_session.ensures.session in
    let p : PeerState = c.new-host.result.peer.now in
    let p' : PeerState = c.run_session.new.host.peer.now in
    let fact : AttemptsSessionAlone c.args.role p c.run_session.result p' =
    meets_alone c.args.role c.id-id.result c.new-host.result.link.0 c.run_session.new.host.link.0 p c.run_session.result p' (search rules) (search rules) (search rules) (w.0, w.3) in
    search (rules, fact)

-- what was written are the frames that it sent
pub returns-clause-frames : goal.returns-clause-frames
returns-clause-frames g c =
    let w = c.run_session.ensures.session in
    ⊎_elim (λ io. inl io) (λ wrote. inr (w.0.sent, wrote)) w.2
