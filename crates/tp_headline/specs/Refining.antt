-- A world of peers as a world of lists: each event is one act.
use Rattle.std.specs.Prelude.{◌≡◌, ℕ, List, length, false, None, Some}
use Rattle.tp_headline.specs.Common.{ChangeParts, hash_of, PeerState}
use Rattle.tp_headline.specs.Headline.{Act, ActStep, ActSteps, Nothing, Join, Fork, Make, Read, ReadAt}
use Rattle.tp_headline.specs.Event.{Event}
use Rattle.tp_headline.specs.Reply.{EventReply, Answered, Refused}
use Rattle.tp_headline.specs.World.{World, HasPeer, lists_of}
use Rattle.tp_peer.specs.PeerStep as peer
use Rattle.tp_headline.specs.Call as call
use Rattle.tp_headline.specs.Event as event
use Rattle.tp_headline.specs.Reply as reply

-- What the act has to be that an event is: a refused event is Nothing; a peer that joined is a Join, or a Fork of the peer
-- that forked; a text that was read is that Read, or that ReadAt at the hashes; an edit that answered a hash made the
-- change with that hash; and a running peer that crashes between calls is Nothing.
abbrev pub IsActOf : World → Event → EventReply → Act → Type 0
IsActOf w e (Refused why) a = a ≡ Nothing
IsActOf w (event.Start actor) (reply.Peer number) a = a ≡ Join
IsActOf w (event.Fork n actor) (reply.Peer number) a = a ≡ Fork n
IsActOf w (event.Call n (call.Alone peer.Read)) (Answered (peer.Text text)) a = a ≡ Read n text
IsActOf w (event.Call n (call.Alone (peer.ReadAt H))) (Answered (peer.Text text)) a = a ≡ ReadAt n H text
IsActOf w (event.Call n (call.Alone made)) (Answered (peer.Made (Some h))) a = (c : ChangeParts) × (hash_of c ≡ h) × (a ≡ Make n c)
IsActOf w (event.Crash n None kept actor) r a = (p : PeerState) → HasPeer w n p → p.stopped ≡ false → a ≡ Nothing
IsActOf w e r a = Unit {0}

-- Where w met the event, gave the reply and is w' then, the lists of w came by one act to be those of w'.
pub record IsOneAct (w : World) (e : Event) (r : EventReply) (w' : World) : Type 0 where
  pub act : Act
  pub step : ActStep (lists_of w) act (lists_of w')
  pub is : IsActOf w e r act

-- By `count` acts the lists of w came to be those of w'.
pub record AreActs (w : World) (count : ℕ) (w' : World) : Type 0 where
  pub acts : List Act
  pub each : length acts ≡ count
  pub steps : ActSteps (lists_of w) acts (lists_of w')
