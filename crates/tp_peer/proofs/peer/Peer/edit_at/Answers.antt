use Rattle.std.specs.Str.{chars}
use Rattle.std.specs.Prelude.{IfSome}
use Rattle.tp_history.specs.Past.{past}
use Rattle.tp_peer.proofs.Common.{Bool, false, DoesSplices, [], ◌∷◌, ap, sym, subst, ◌∙◌, EditRequest, asking, PeerState, peer_state, Made, Ok, Err}
use Rattle.tp_peer.specs.EditingAt.{EditsAt, RefusesEditAt, StepsAt}
use Rattle.tp_peer.proofs.EarlierLaws.{edit_at_does, edit_now, edits_at_keep, refused_at_keeps, refused_now, steps_at_running, steps_at_stopped}
use Rattle.tp_peer.proofs.StepLaws.{keeping_leaves_peer}
use Rattle.tp_peer.proofs.peer.Peer.edit_at.Goals as goal

pub returns-then-self-clause-step : goal.returns-then-self-clause-step
returns-then-self-clause-step g c =
    steps_at_stopped c.args.self.now c.args.heads.now (asking c.args.actor c.args.splices.now c.args.time (chars c.args.message.now))
    (ap (λ (p : PeerState). p.stopped) (sym c.self.view_is) ∙ c.if-self.true)

pub invariant_of-self : goal.invariant_of-self
invariant_of-self g c =
    let s = c.self.inside in
    let new = c.edit_at_on.new in
    let asked : EditRequest = asking c.args.actor c.args.splices.now c.args.time (chars c.args.message.now) in
    let p : PeerState = peer_state s.actor s.document s.links.known s.appender s.stopped in
    let p' : PeerState = peer_state s.actor new.document s.links.known new.appender s.stopped in
    let done : EditsAt p c.args.heads.now asked c.in-Ok.made p' =
    subst (λ (b : Bool). EditsAt (peer_state s.actor s.document s.links.known s.appender b) c.args.heads.now asked c.in-Ok.made (peer_state s.actor new.document s.links.known new.appender b))
    (sym c.if-self.false) (c.in-Ok.ensures.ok s.actor s.links.known) in
    keeping_leaves_peer p edit_now (Made c.in-Ok.made) p' c.self.invariant (edits_at_keep p p' c.args.heads.now asked c.in-Ok.made c.if-self.false done)

pub invariant_of-self-in-Err : goal.invariant_of-self-in-Err
invariant_of-self-in-Err g c =
    let s = c.self.inside in
    let new = c.edit_at_on.new in
    let asked : EditRequest = asking c.args.actor c.args.splices.now c.args.time (chars c.args.message.now) in
    let p : PeerState = peer_state s.actor s.document s.links.known s.appender s.stopped in
    let p' : PeerState = peer_state s.actor new.document s.links.known new.appender c.is_failed-self-inside.result in
    let refused : RefusesEditAt p c.args.heads.now asked c.in-Err.error p' =
    subst (λ (b : Bool). RefusesEditAt (peer_state s.actor s.document s.links.known s.appender b) c.args.heads.now asked c.in-Err.error p') (sym c.if-self.false)
    (subst (λ (b : Bool). RefusesEditAt (peer_state s.actor s.document s.links.known s.appender false) c.args.heads.now asked c.in-Err.error (peer_state s.actor new.document s.links.known new.appender b))
    (sym c.is_failed-self-inside.ensures) (c.in-Err.ensures.err s.actor s.links.known)) in
    keeping_leaves_peer p edit_now (refused_now c.in-Err.error) p' c.self.invariant (refused_at_keeps p p' c.args.heads.now asked c.in-Err.error c.if-self.false refused)

pub returns-in-Ok-clause-step : goal.returns-in-Ok-clause-step
returns-in-Ok-clause-step g c =
    let s = c.self.inside in
    let new = c.edit_at_on.new in
    let asked : EditRequest = asking c.args.actor c.args.splices.now c.args.time (chars c.args.message.now) in
    let p : PeerState = peer_state s.actor s.document s.links.known s.appender s.stopped in
    let p' : PeerState = peer_state s.actor new.document s.links.known new.appender s.stopped in
    let done : EditsAt p c.args.heads.now asked c.in-Ok.made p' =
    subst (λ (b : Bool). EditsAt (peer_state s.actor s.document s.links.known s.appender b) c.args.heads.now asked c.in-Ok.made (peer_state s.actor new.document s.links.known new.appender b))
    (sym c.if-self.false) (c.in-Ok.ensures.ok s.actor s.links.known) in
    subst (λ (x : PeerState). StepsAt x c.args.heads.now asked (Ok c.in-Ok.made) p') c.self.view_is
    (steps_at_running p p' c.args.heads.now asked (Ok c.in-Ok.made) c.if-self.false done)

pub returns-in-Ok-clause-text : goal.returns-in-Ok-clause-text
returns-in-Ok-clause-text g c =
    let s = c.self.inside in
    let new = c.edit_at_on.new in
    let asked : EditRequest = asking c.args.actor c.args.splices.now c.args.time (chars c.args.message.now) in
    let p : PeerState = peer_state s.actor s.document s.links.known s.appender s.stopped in
    let p' : PeerState = peer_state s.actor new.document s.links.known new.appender s.stopped in
    let done : EditsAt p c.args.heads.now asked c.in-Ok.made p' =
    subst (λ (b : Bool). EditsAt (peer_state s.actor s.document s.links.known s.appender b) c.args.heads.now asked c.in-Ok.made (peer_state s.actor new.document s.links.known new.appender b))
    (sym c.if-self.false) (c.in-Ok.ensures.ok s.actor s.links.known) in
    subst (λ (q : PeerState). IfSome c.in-Ok.made (λ h. DoesSplices (past q.applied c.args.heads.now) (past p'.applied (h ∷ [])) c.args.splices.now)) c.self.view_is
    (edit_at_does p p' c.args.heads.now asked c.in-Ok.made c.self.invariant.history.sound done)

pub returns-in-Err-clause-step : goal.returns-in-Err-clause-step
returns-in-Err-clause-step g c =
    let s = c.self.inside in
    let new = c.edit_at_on.new in
    let asked : EditRequest = asking c.args.actor c.args.splices.now c.args.time (chars c.args.message.now) in
    let p : PeerState = peer_state s.actor s.document s.links.known s.appender s.stopped in
    let p' : PeerState = peer_state s.actor new.document s.links.known new.appender c.is_failed-self-inside.result in
    let refused : RefusesEditAt p c.args.heads.now asked c.in-Err.error p' =
    subst (λ (b : Bool). RefusesEditAt (peer_state s.actor s.document s.links.known s.appender b) c.args.heads.now asked c.in-Err.error p') (sym c.if-self.false)
    (subst (λ (b : Bool). RefusesEditAt (peer_state s.actor s.document s.links.known s.appender false) c.args.heads.now asked c.in-Err.error (peer_state s.actor new.document s.links.known new.appender b))
    (sym c.is_failed-self-inside.ensures) (c.in-Err.ensures.err s.actor s.links.known)) in
    subst (λ (x : PeerState). StepsAt x c.args.heads.now asked (Err c.in-Err.error) p') c.self.view_is
    (steps_at_running p p' c.args.heads.now asked (Err c.in-Err.error) c.if-self.false refused)
