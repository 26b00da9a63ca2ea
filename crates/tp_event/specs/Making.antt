-- The change that an event would make, and what is noted of an answer.
use Rattle.std.specs.Prelude.{◌≡◌, ◌⊎◌, ℕ, List, [], ◌∷◌, length, Bool, true, false, nat_le, Option, Some, None, Result, Ok, Err}
use Rattle.tp_event.specs.Common.{Actor, ChangeParts, PeerError, PeerState, OutOfMemory, IsCall, heads_at, noting, Event, EventReply, Peer, Answered, Refused, reply_to, World, HasPeer, with_new_peer, with_peer, with_used, Hash}
use Rattle.tp_headline.specs.Refusing.{IsEditOf, WouldEdit}
use Rattle.tp_history.specs.Heads.{heads}
use Rattle.tp_recovery.specs.Layout.{record_of}
use Rattle.tp_peer.specs.PeerStep as peer
use Rattle.tp_headline.specs.Call as call

-- c is the change of an edit of the peer, which runs.
pub record IsRunningEdit (p : PeerState) (made : peer.Call) (c : ChangeParts) : Type 0 where
  pub runs : p.stopped ≡ false
  pub edited : IsEditOf p made c

-- The change is that of the edit that the call is, or it makes none.
abbrev pub IsJustEdit : PeerState → peer.Call → Option ChangeParts → Type 0
IsJustEdit p made (Some c) = IsRunningEdit p made c
IsJustEdit p made None = (c : ChangeParts) → IsRunningEdit p made c → ⊥

-- The change is that of the edit that the event is, or during which a peer crashes in it, or there is none.
abbrev pub IsWould : World → Event → Option ChangeParts → Type 0
IsWould w e (Some c) = WouldEdit w e c
IsWould w e None = (c : ChangeParts) → WouldEdit w e c → ⊥

-- an edit made a change
abbrev pub is_made : peer.Reply → Bool
is_made (peer.Made (Some hash)) = true
is_made answer = false

-- the change, where it was entered
abbrev pub entered_of : Option ChangeParts → Bool → List ChangeParts
entered_of (Some c) true = c ∷ []
entered_of (Some c) false = []
entered_of None entered = []

-- its whole record is kept
abbrev pub is_kept_in : Option ChangeParts → ℕ → Bool
is_kept_in (Some c) kept = nat_le (length (record_of c)) kept
is_kept_in None kept = false

-- the heads at which a text of the peer p is read, by the name of the call
abbrev pub heads_named : PeerState → call.EventCall → List Hash
heads_named p (call.Alone own) = heads_at p own
heads_named p named = heads p.applied

-- The peer numbered n made the call that is named so, and answered so. Nothing else changed.
pub record AnswersAt (w : World) (n : ℕ) (named : call.EventCall) (answer : peer.Reply) (w' : World) : Type 0 where
  pub before : PeerState
  pub present : HasPeer w n before
  pub made : peer.Call
  pub is : IsCall w named made
  pub after : PeerState
  pub steps : peer.PeerStep before made answer after
  pub left : w' ≡ with_peer w n after

-- The answer was noted, or memory for the text that was read was refused and nothing changed.
abbrev pub NotesAnswer : World → ℕ → List Hash → peer.Reply → EventReply → World → Type 0
NotesAnswer w n H answer reply w' =
    ((text : List ℕ) × (answer ≡ peer.Text text) × (reply ≡ Refused OutOfMemory) × (w' ≡ w))
    ⊎ ((reply ≡ reply_to (length w.wire) answer) × (w' ≡ noting w n H answer))

-- The peer joined, or it couldn't be opened. The actor is used.
abbrev pub JoinsAs : World → Actor → Result PeerState PeerError → EventReply → World → Type 0
JoinsAs w actor (Ok p) reply w' = (reply ≡ Peer (length w.peers)) × (w' ≡ with_used (with_new_peer w p) actor)
JoinsAs w actor (Err error) reply w' = (reply ≡ Answered (peer.Refused error)) × (w' ≡ with_used w actor)
