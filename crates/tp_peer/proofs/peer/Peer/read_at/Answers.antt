use Rattle.std.specs.Str.{chars}
use Rattle.std.specs.String.{string_bytes}
use Rattle.tp_peer.proofs.Common.{PeerState, PeerError, PeerStep, ReadAt, Refused, Text, has_all, peer_state, refl, refusal_of_document, subst, sym}
use Rattle.tp_peer.proofs.RunningLaws.{all_known, stopped_steps, text_refused}
use Rattle.tp_peer.proofs.StepLaws.{step_runs}
use Rattle.tp_peer.proofs.peer.Peer.read_at.Goals as goal

pub returns-then-self : goal.returns-then-self
returns-then-self g c = stopped_steps _ c.args.self.now (ReadAt c.args.hashes.now) refl c.self.view_is c.if-self.true

pub returns-in-Ok : goal.returns-in-Ok
returns-in-Ok g c =
    let s = c.self.inside in
    let H = c.args.hashes.now in
    let p : PeerState = peer_state s.actor s.document s.links.known s.appender s.stopped in
    subst (λ (q : PeerState). PeerStep q (ReadAt H) (Text (chars (string_bytes c.in-Ok.text))) q) c.self.view_is
    (step_runs p (ReadAt H) (Text (chars (string_bytes c.in-Ok.text))) p c.if-self.false
    (all_known _ (has_all p.applied H) c.in-Ok.ensures.unknown (λ other. cc), c.in-Ok.ensures.text, refl))

pub returns-in-Err : goal.returns-in-Err
returns-in-Err g c =
    let s = c.self.inside in
    let H = c.args.hashes.now in
    let p : PeerState = peer_state s.actor s.document s.links.known s.appender s.stopped in
    subst (λ (e : PeerError). PeerStep c.args.self.now (ReadAt H) (Refused e) c.args.self.now) (sym c.from.ensures)
    (subst (λ (q : PeerState). PeerStep q (ReadAt H) (Refused (refusal_of_document c.in-Err.error)) q) c.self.view_is
    (step_runs p (ReadAt H) (Refused (refusal_of_document c.in-Err.error)) p c.if-self.false
    (text_refused p H _ c.in-Err.error refl c.in-Err.ensures.unknown c.in-Err.ensures.err, refl)))
