use Rattle.tp_peer.proofs.Common.{Bool, false, ap, sym, subst, ◌∙◌, ◌||◌, absent, Done, PeerState, peer_state, is_failed, PeerError, Merge, Merged, PeerStep, Refused, Reply, Runs, report_of, or_right, neither}
use Rattle.tp_peer.proofs.StepLaws.{keeping_leaves_peer, runs_keep, step_runs, step_stopped}
use Rattle.tp_peer.proofs.TakingLaws.{merge_refused, took}
use Rattle.tp_peer.proofs.peer.Peer.merge.Goals as goal
use Rattle.tp_peer.proofs.peer.Peer.merge.Goals.{then-self-via-then-self, then-self-via-else-self+then-other}

pub returns-then-self : goal.returns-then-self
returns-then-self g c =
    let p : PeerState = c.args.self.now in
    let q : PeerState = c.args.other.now in
    elim c.then-self.branch [
      | then-self-via-then-self w ↦ step_stopped p (Merge q) (ap (λ b. b || q.stopped) (ap (λ (x : PeerState). x.stopped) (sym c.self.view_is) ∙ w.if-self.true))
      | then-self-via-else-self+then-other w ↦ step_stopped p (Merge q) (or_right p.stopped q.stopped (ap (λ (x : PeerState). x.stopped) (sym c.other.view_is) ∙ w.if-other.true))
    ]

pub invariant_of-self : goal.invariant_of-self
invariant_of-self g c =
    let s = c.self.inside in
    let o = c.other.inside in
    let new = c.merge_with.new in
    let p : PeerState = peer_state s.actor s.document s.links.known s.appender s.stopped in
    let q : PeerState = peer_state o.actor o.document o.links.known o.appender o.stopped in
    let reply : Reply = Merged (report_of c.in-Ok.applied) in
    let p' : PeerState = peer_state s.actor new.self s.links.known new.keeper s.stopped in
    let done : Runs p (Merge q) reply p' =
    (c.in-Ok.ensures.outcome.0, took s.actor s.document new.self s.links.known s.appender new.keeper s.stopped (absent s.document.applied o.document.applied) (Done (report_of c.in-Ok.applied)) c.in-Ok.ensures.id c.in-Ok.ensures.outcome.1) in
    keeping_leaves_peer p (Merge q) reply p' c.self.invariant (runs_keep p (Merge q) reply p' c.if-self.false done)

pub invariant_of-self-in-Err : goal.invariant_of-self-in-Err
invariant_of-self-in-Err g c =
    let s = c.self.inside in
    let o = c.other.inside in
    let new = c.merge_with.new in
    let p : PeerState = peer_state s.actor s.document s.links.known s.appender s.stopped in
    let q : PeerState = peer_state o.actor o.document o.links.known o.appender o.stopped in
    let reply : Reply = Refused c.from-error.result in
    let p' : PeerState = peer_state s.actor new.self s.links.known new.keeper c.is_failed-self-inside.result in
    let refused : Runs p (Merge q) reply p' =
    subst (λ (b : Bool). Runs (peer_state s.actor s.document s.links.known s.appender b) (Merge q) reply p') (sym c.if-self.false)
    (subst (λ (b : Bool). Runs (peer_state s.actor s.document s.links.known s.appender false) (Merge q) reply (peer_state s.actor new.self s.links.known new.keeper b)) (sym c.is_failed-self-inside.ensures)
    (subst (λ (e : PeerError). Runs (peer_state s.actor s.document s.links.known s.appender false) (Merge q) (Refused e) (peer_state s.actor new.self s.links.known new.keeper (is_failed e))) (sym c.from-error.ensures)
    (merge_refused s.actor s.document new.self s.links.known s.appender new.keeper q c.in-Err.error c.in-Err.ensures.id c.in-Err.ensures.space c.in-Err.ensures.outcome))) in
    keeping_leaves_peer p (Merge q) reply p' c.self.invariant (runs_keep p (Merge q) reply p' c.if-self.false refused)

pub returns-in-Ok : goal.returns-in-Ok
returns-in-Ok g c =
    let s = c.self.inside in
    let o = c.other.inside in
    let new = c.merge_with.new in
    let p : PeerState = peer_state s.actor s.document s.links.known s.appender s.stopped in
    let q : PeerState = peer_state o.actor o.document o.links.known o.appender o.stopped in
    let reply : Reply = Merged (report_of c.in-Ok.applied) in
    let p' : PeerState = peer_state s.actor new.self s.links.known new.keeper s.stopped in
    let done : Runs p (Merge q) reply p' =
    (c.in-Ok.ensures.outcome.0, took s.actor s.document new.self s.links.known s.appender new.keeper s.stopped (absent s.document.applied o.document.applied) (Done (report_of c.in-Ok.applied)) c.in-Ok.ensures.id c.in-Ok.ensures.outcome.1) in
    subst (λ (x : PeerState). PeerStep x (Merge c.args.other.now) reply p') c.self.view_is
    (subst (λ (y : PeerState). PeerStep p (Merge y) reply p') c.other.view_is (step_runs p (Merge q) reply p' (neither s.stopped o.stopped c.if-self.false c.if-other.false) done))

pub returns-in-Err : goal.returns-in-Err
returns-in-Err g c =
    let s = c.self.inside in
    let o = c.other.inside in
    let new = c.merge_with.new in
    let p : PeerState = peer_state s.actor s.document s.links.known s.appender s.stopped in
    let q : PeerState = peer_state o.actor o.document o.links.known o.appender o.stopped in
    let reply : Reply = Refused c.from-error.result in
    let p' : PeerState = peer_state s.actor new.self s.links.known new.keeper c.is_failed-self-inside.result in
    let refused : Runs p (Merge q) reply p' =
    subst (λ (b : Bool). Runs (peer_state s.actor s.document s.links.known s.appender b) (Merge q) reply p') (sym c.if-self.false)
    (subst (λ (b : Bool). Runs (peer_state s.actor s.document s.links.known s.appender false) (Merge q) reply (peer_state s.actor new.self s.links.known new.keeper b)) (sym c.is_failed-self-inside.ensures)
    (subst (λ (e : PeerError). Runs (peer_state s.actor s.document s.links.known s.appender false) (Merge q) (Refused e) (peer_state s.actor new.self s.links.known new.keeper (is_failed e))) (sym c.from-error.ensures)
    (merge_refused s.actor s.document new.self s.links.known s.appender new.keeper q c.in-Err.error c.in-Err.ensures.id c.in-Err.ensures.space c.in-Err.ensures.outcome))) in
    subst (λ (x : PeerState). PeerStep x (Merge c.args.other.now) reply p') c.self.view_is
    (subst (λ (y : PeerState). PeerStep p (Merge y) reply p') c.other.view_is (step_runs p (Merge q) reply p' (neither s.stopped o.stopped c.if-self.false c.if-other.false) refused))
