-- What follows on a world that is carried.
use Rattle.tp_headline.proofs.Common.{◌≡◌, inl, inr, ℕ, List, length, length-map, map, take, drop, take-append-drop, take-map, drop-map, Some, refl, sym, ap, ◌∙◌, subst, slice_get, Hash, trace_split, PeerState, Calls, after_call, heads_at, noting, AreActs, WorldInvariant, Event, Call, Follows, GoesOn, GoesOnWith, Headline, IsMoment, IsOneAct, MeetsEvent, Next, Answered, EventReply, reply_to, World, HasPeer, lists_of}
use Rattle.tp_headline.proofs.ActLaws.{coherent_lasts}
use Rattle.tp_headline.proofs.EventLaws.{goes_on_acts, next_acts}
use Rattle.tp_headline.proofs.OneList.{coherent_headline}
use Rattle.tp_headline.proofs.PlaceLaws.{slice_get-set_same}
use Rattle.tp_peer.specs.PeerStep as peer
use Rattle.tp_headline.specs.Call as call

pub same_peer : (w : World) (n : ℕ) (p q : PeerState) → HasPeer w n p → HasPeer w n q → p ≡ q
same_peer w n p q i j = let e : Some p ≡ Some q = sym i ∙ j in cc

-- ---- calls that were answered

same_peers : (w : World) (n : ℕ) (H : List Hash) (answer : peer.Reply) → (noting w n H answer).peers ≡ w.peers
same_peers w n H (peer.Generated (Some message)) = refl
same_peers w n H (peer.Text text) = refl
same_peers w n H answer = refl

-- the peer that was called is there as the call left it
pub present_after : (w : World) (n : ℕ) (named : call.EventCall) (reply : EventReply) (w' : World) (c : Calls w n named reply w') → HasPeer w' n c.after
present_after w n named reply w' c =
    let peers = ap (λ (x : World). x.peers) c.left ∙ same_peers _ n (heads_at c.before c.made) c.answer in
    subst (λ (l : List PeerState). slice_get l n ≡ Some c.after) (sym peers) (slice_get-set_same w.peers n c.before c.after c.present)

pub answer_is : (k : ℕ) (given answer : peer.Reply) → Answered answer ≡ reply_to k given → given ≡ answer
answer_is k (peer.Generated (Some message)) answer e = absurd cc
answer_is k (peer.Text text) answer e = cc
answer_is k given answer e = cc

-- The call of a peer that was answered so, as its step.
pub record Did (w : World) (n : ℕ) (named : call.EventCall) (answer : peer.Reply) (w' : World) : Type 0 where
  pub calls : Calls w n named (Answered answer) w'
  pub steps : peer.PeerStep calls.before calls.made answer calls.after
  pub left : w' ≡ after_call w n (calls.before, calls.after) calls.made answer calls.kept

pub did : (w : World) (n : ℕ) (named : call.EventCall) (answer : peer.Reply) (w' : World) → Next w (Call n named) (Answered answer) w' → Did w n named answer w'
did w n named answer w' (inl refused) = absurd (let replied = refused.replied in cc)
did w n named answer w' (inr does) =
    let c = does.happens in
    let is = answer_is (length w.wire) c.answer answer c.replied in
    record {
      calls = c;
      steps = subst (λ a. peer.PeerStep c.before c.made a c.after) is c.steps;
      left = c.left ∙ ap (λ a. after_call w n (c.before, c.after) c.made a c.kept) is;
    }

-- ---- what is promised of a world that is carried

pub carried_headline : (w : World) → WorldInvariant w → Headline (lists_of w)
carried_headline w h = coherent_headline (lists_of w) h.coherent

pub carried_acts : (w : World) (e : Event) (r : EventReply) (w' : World) → WorldInvariant w → Next w e r w' → IsOneAct w e r w'
carried_acts w e r w' h next = let a = next_acts w e r w' h next in record { act = a.act; step = a.carries.step; is = a.is }

pub carried_follows : (w : World) → WorldInvariant w → Follows w
carried_follows w h = record {
  lasts = coherent_lasts (lists_of w) h.coherent;
  acts = λ events w' s. (goes_on_acts events w w' h s).acts;
  each = λ events m e r w' s next. carried_acts m e r w' (goes_on_acts events w m h s).carried next;
  wire = λ events w' n e s there. (goes_on_acts events w w' h s).grows.wire n e there;
}

-- and of each moment of a run from there
pub carried_moment : (w : World) (events : List Event) (replies : List EventReply) (w' : World) (k : ℕ) → WorldInvariant w → GoesOnWith w events replies w' → IsMoment w events replies w' k
carried_moment w events replies w' k h s =
    let first = λ (e : Event × EventReply). e.0 in
    let second = λ (e : Event × EventReply). e.1 in
    let parts = trace_split MeetsEvent w (take k s.both) (drop k s.both) w' (subst (λ l. GoesOn w l w') (sym (take-append-drop k s.both)) s.run) in
    let so_far : map first (take k s.both) ≡ take k events = sym (take-map first k s.both) ∙ ap (take k) s.first in
    let on = goes_on_acts (take k s.both) w parts.0 h parts.1 in
    let count : length (take k s.both) ≡ length (take k events) = sym (length-map (take k s.both) first) ∙ ap length so_far in
    record {
      world = parts.0;
      before = record { both = take k s.both; first = so_far; second = sym (take-map second k s.both) ∙ ap (take k) s.second; run = parts.1 };
      acts = subst (λ i. AreActs w i parts.0) count on.acts;
      after = record { both = drop k s.both; first = sym (drop-map first k s.both) ∙ ap (drop k) s.first; second = sym (drop-map second k s.both) ∙ ap (drop k) s.second; run = parts.2 };
      headline = carried_headline parts.0 on.carried;
      follows = carried_follows parts.0 on.carried;
    }
