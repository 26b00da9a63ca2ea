use Rattle.tp_peer.proofs.Common.{◌≡◌, ℕ, List, Some, false, ap, sym, subst, ◌∙◌, ◌↔◌, IsTrue, message_spelling, SyncParts, after_message, PeerError, PeerState, peer_state, is_failed, refusal_of_sync, RefusesReceive, is_one_too_many, known_of, with_link}
use Rattle.tp_peer.proofs.ReceivingLaws.{decodes, heard_all, heard_part}
use Rattle.tp_peer.proofs.syncing.receive_message_on.Goals as goal

pub returns-in-Ok-clause-ok : goal.returns-in-Ok-clause-ok
returns-in-Ok-clause-ok g c = λ actor.
    let L : List (ℕ × SyncParts) = c.args.links.now.known in
    let link : ℕ = c.args.link.0 in
    let m = c.args.message in
    let kept : c.reserve.new.self.known ≡ L = c.in_ok-reserve.ensures.same in
    let place : is_one_too_many L link ≡ false = sym c.is_full_for.ensures ∙ c.if-is_full_for.false in
    let state : c.in_ok-state.state ≡ known_of L link = c.in_ok-state.ensures.known in
    let same : IsTrue c.is_declared-same_heads.result ↔ ((known_of L link).theirs ≡ Some m.heads) =
    subst (λ (s : SyncParts). IsTrue c.is_declared-same_heads.result ↔ (s.theirs ≡ Some m.heads)) state (rw c.heads.ensures.heads at c.is_declared-same_heads.ensures) in
    let is : c.set.new.self.known ≡ with_link L link (after_message (known_of L link) m) =
    c.set.ensures ∙ ap (λ (M : List (ℕ × SyncParts)). with_link M link c.receive_with.new.state) kept
    ∙ ap (λ (s : SyncParts). with_link L link s) (c.in-Ok.ensures.state ∙ ap (λ (s : SyncParts). after_message s m) state) in
    heard_all actor c.args.document.now c.receive_with.new.document L c.set.new.self.known c.args.appender.now c.receive_with.new.keeper link (message_spelling m) m c.in-Ok.applied c.is_declared-same_heads.result place (decodes m c.heads.ensures.limits)
    c.in-Ok.ensures.id c.in-Ok.ensures.outcome same is

pub returns-in-Err-clause-err : goal.returns-in-Err-clause-err
returns-in-Err-clause-err g c = λ actor.
    let L : List (ℕ × SyncParts) = c.args.links.now.known in
    let link : ℕ = c.args.link.0 in
    let kept : c.reserve.new.self.known ≡ L = c.in_ok-reserve.ensures.same in
    let place : is_one_too_many L link ≡ false = sym c.is_full_for.ensures ∙ c.if-is_full_for.false in
    let p : PeerState = peer_state actor c.args.document.now L c.args.appender.now false in
    subst (λ (e : PeerError). RefusesReceive p link (message_spelling c.args.message) e (peer_state actor c.receive_with.new.document c.reserve.new.self.known c.receive_with.new.keeper (is_failed e))) (sym c.from.ensures)
    (subst (λ (M : List (ℕ × SyncParts)). RefusesReceive p link (message_spelling c.args.message) (refusal_of_sync c.in-Err.error) (peer_state actor c.receive_with.new.document M c.receive_with.new.keeper (is_failed (refusal_of_sync c.in-Err.error)))) (sym kept)
    (heard_part actor c.args.document.now c.receive_with.new.document L c.args.appender.now c.receive_with.new.keeper link (message_spelling c.args.message) c.args.message c.in-Err.error place (decodes c.args.message c.heads.ensures.limits) c.in-Err.ensures.id c.in-Err.ensures.outcome))
