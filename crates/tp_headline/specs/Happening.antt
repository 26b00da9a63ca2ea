-- What an event does to a world.
use Rattle.std.specs.Prelude.{◌≡◌, ◌⊎◌, [], length}
use Rattle.tp_headline.specs.Common.{Actor, no_device, header_of, PeerError, PeerState, arming, opened_peer}
use Rattle.tp_headline.specs.declared.error.WorldError.{WorldError}
use Rattle.tp_headline.specs.Calling.{Calls, in_memory}
use Rattle.tp_headline.specs.Crashing.{Crashes, made_during}
use Rattle.tp_headline.specs.Event.{Event, Start, Fork, Call, Crash, Fail}
use Rattle.tp_headline.specs.Refusing.{MayHappen, RefusesHappening}
use Rattle.tp_headline.specs.Reply.{EventReply, Peer, Armed, Answered, Refused}
use Rattle.tp_headline.specs.World.{World, HasPeer, with_new_peer, with_peer, with_made, with_used}
use Rattle.tp_peer.specs.PeerState.{gained_changes}
use Rattle.tp_peer.specs.Opening as opening
use Rattle.tp_peer.specs.PeerStep as peer

-- A peer joins that is as IsNew says, or couldn't be opened, as IsError says. The actor is used then too.
abbrev pub Joins : World → Actor → (PeerState → Type 0) → (PeerError → Type 0) → EventReply → World → Type 0
Joins w actor IsNew IsError reply w' =
    ((p : PeerState) × IsNew p × (reply ≡ Peer (length w.peers)) × (w' ≡ with_used (with_new_peer w p) actor))
    ⊎ ((error : PeerError) × IsError error × (reply ≡ Answered (peer.Refused error)) × (w' ≡ with_used w actor))

-- What the event may reply and leave, where nothing is against it.
abbrev pub Happens : World → Event → EventReply → World → Type 0
Happens w (Start actor) reply w' =
    Joins w actor (λ p. p ≡ opened_peer w.id actor [] no_device) (λ error. opening.RefusesNewJournal (header_of w.id) (in_memory []) error (in_memory [])) reply w'
Happens w (Fork n actor) reply w' =
    (of : PeerState) × HasPeer w n of
    × Joins w actor (λ p. opening.Forks of actor (in_memory []) p) (λ error. opening.RefusesFork of actor (in_memory []) error (in_memory [])) reply w'
Happens w (Call n named) reply w' = Calls w n named reply w'
Happens w (Crash n during kept actor) reply w' =
    (c : Crashes w n during kept actor reply)
    × (w' ≡ with_used (with_made (with_peer w n c.after) (made_during during (gained_changes c.before c.after))) actor)
Happens w (Fail n kept) reply w' = (p : PeerState) × HasPeer w n p × (reply ≡ Armed) × (w' ≡ with_peer w n (arming p kept))

-- The world refused the event: it is as it was.
pub record RefusesEvent (w : World) (e : Event) (reply : EventReply) (w' : World) : Type 0 where
  pub why : WorldError
  pub refused : RefusesHappening w e why
  pub replied : reply ≡ Refused why
  pub left : w' ≡ w

-- The event passed every test, and happened.
pub record Does (w : World) (e : Event) (reply : EventReply) (w' : World) : Type 0 where
  pub may : MayHappen w e
  pub happens : Happens w e reply w'

-- The world w met the event, replied, and is w' from then on.
abbrev pub Next : World → Event → EventReply → World → Type 0
Next w e reply w' = RefusesEvent w e reply w' ⊎ Does w e reply w'
