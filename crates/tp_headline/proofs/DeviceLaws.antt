-- What a call of a world that is carried does to the device of its peer's journal.
use Rattle.tp_headline.proofs.Common.{◌≡◌, inl, inr, ℕ, List, [], ◌∷◌, ◌++◌, length, Bool, true, false, ◌||◌, None, is_some, refl, sym, ap, ◌∙◌, subst, append-nil, append_cancel_left, Appends, ChangeParts, Device, DeviceFails, Keeps, after_appends, never, PeerState, step_keeps, WorldInvariant, Call, Next, Answered, EventReply, reply_to, World, HasPeer}
use Rattle.tp_headline.specs.Devices.{SpendsFuse}
use Rattle.tp_headline.proofs.FollowLaws.{answer_is, same_peer, present_after}
use Rattle.tp_peer.specs.declared.error.PeerError.TheVariants.{JournalFailed}
use Rattle.tp_peer.specs.PeerStep as peer
use Rattle.tp_headline.specs.Call as call

-- ---- calls that appended what entered

-- something was appended, so nothing is armed
fuse_gone : (new C D : List ChangeParts) (d d' : Device) → D ≡ C ++ new → d' ≡ after_appends new d → (D ≡ C → ⊥) → d'.fuse ≡ None
fuse_gone [] C D d d' grown device grew = absurd (grew (grown ∙ append-nil C))
fuse_gone (c ∷ new) C D d d' grown device grew = ap (λ (x : Device). x.fuse) device

fuse_stays : (new C D : List ChangeParts) (d d' : Device) → D ≡ C ++ new → d' ≡ after_appends new d → D ≡ C → d' ≡ d
fuse_stays new C D d d' grown device same =
    let none : new ≡ [] = append_cancel_left C new [] (sym grown ∙ same ∙ sym (append-nil C)) in
    device ∙ ap (λ (l : List ChangeParts). after_appends l d) none

spends_appends : (p p' : PeerState) (made : peer.Call) (answer : peer.Reply) (reply : EventReply) → (k : Keeps p made answer p') → Appends p k.new answer p' → (reply ≡ Answered (peer.Refused JournalFailed) → answer ≡ peer.Refused JournalFailed)
    → SpendsFuse p reply p'
spends_appends p p' made answer reply k a is = record {
  fails = λ failed. absurd (a.answered (is failed));
  appends = λ grew. fuse_gone k.new p.applied p'.applied p.device p'.device k.applied a.device grew;
  stays = λ same kept. fuse_stays k.new p.applied p'.applied p.device p'.device k.applied a.device same;
}

-- ---- calls on a device that failed

left_true : (a b : Bool) → b ≡ false → (a || b) ≡ true → a ≡ true
left_true true b calm could = refl
left_true false b calm could = never could calm

burns : (d d' : Device) → d.can_fail ≡ false → DeviceFails d d' → (is_some d.fuse ≡ true) × (d'.fuse ≡ None)
burns d d' calm (true, f) = (left_true (is_some d.fuse) d.can_fail calm f.could, f.fuse)
burns d d' calm (false, f) = never f.could calm

spends_fails : (p p' : PeerState) (reply : EventReply) → p.device.can_fail ≡ false → DeviceFails p.device p'.device → reply ≡ Answered (peer.Refused JournalFailed) → SpendsFuse p reply p'
spends_fails p p' reply calm device failed =
    let burnt = burns p.device p'.device calm device in
    record { fails = λ e. burnt; appends = λ grew. burnt.1; stays = λ same kept. absurd (kept failed) }

-- ---- all calls

spends_step : (p p' : PeerState) (made : peer.Call) (answer : peer.Reply) (k : ℕ) (reply : EventReply) → p.device.can_fail ≡ false → peer.PeerStep p made answer p' → reply ≡ reply_to k answer → SpendsFuse p reply p'
spends_step p p' made answer k reply calm steps replied =
    let keeps = step_keeps p made answer p' steps in
    elim keeps.journal [
      | inl a ↦ spends_appends p p' made answer reply keeps a (λ failed. answer_is k answer (peer.Refused JournalFailed) (sym failed ∙ replied))
      | inr t ↦ spends_fails p p' reply calm t.device (replied ∙ ap (reply_to k) t.answered)
    ]

pub call_spends : (w : World) (n : ℕ) (named : call.EventCall) (reply : EventReply) (w' : World) (p p' : PeerState) → WorldInvariant w → HasPeer w n p → HasPeer w' n p' → Next w (Call n named) reply w' → SpendsFuse p reply p'
call_spends w n named reply w' p p' h before after (inl refused) =
    let same : p' ≡ p = same_peer w n p' p (subst (λ x. HasPeer x n p') refused.left after) before in
    record {
      fails = λ failed. absurd (let e = sym failed ∙ refused.replied in cc);
      appends = λ grew. absurd (grew (ap (λ (x : PeerState). x.applied) same));
      stays = λ e kept. ap (λ (x : PeerState). x.device) same;
    }
call_spends w n named reply w' p p' h before after (inr does) =
    let c = does.happens in
    let is = same_peer w n c.before p c.present before in
    let is' = same_peer w' n c.after p' (present_after w n named reply w' c) after in
    subst (λ (x : PeerState). SpendsFuse x reply p') is
    (subst (λ (x : PeerState). SpendsFuse c.before reply x) is'
    (spends_step c.before c.after c.made c.answer (length w.wire) reply (h.peers n c.before c.present).calm c.steps c.replied))
