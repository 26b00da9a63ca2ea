-- What every world that a run reaches keeps, event by event.
use Rattle.std.specs.Prelude.{◌≡◌, ℕ, ◌≤◌, List, ◌++◌, length, Ok, false, IsTrue}
use Rattle.tp_headline.specs.Common.{In, AllIn, ChangeParts, IsDocId, journal, IsHistory, Recovers, PeerState}
use Rattle.tp_layout.specs.Limits.{AllChanges}
use Rattle.tp_message.specs.Message.{MessageParts}
use Rattle.tp_message.specs.Reading.{message_at}
use Rattle.tp_headline.specs.Coherent.{Coherent}
use Rattle.tp_headline.specs.World.{WireEntry, World, HasPeer, lists_of}

-- A running peer has its changes in its journal, and holds each change that its actor made.
pub record IsLive (made : List ChangeParts) (p : PeerState) : Type 0 where
  pub journal : p.journal ≡ journal p.id p.applied
  pub own : (c : ChangeParts) → In c made → c.actor ≡ p.actor → In c p.applied

-- A peer that has stopped: its journal recovers to its changes and, where its device failed once a whole record was
-- written, to one more that was made.
pub record IsDead (made : List ChangeParts) (p : PeerState) : Type 0 where
  pub more : List ChangeParts
  pub few : length more ≤ 1
  pub were_made : AllIn more made
  pub keep : ℕ
  pub recovers : Recovers p.journal p.id (p.applied ++ more) keep

-- What holds of each peer of the world: its changes are a history, and with those that wait they were made; its actor
-- is used; its device fails in no call but an append that it was set to fail in; and it is live where it runs, and where it has stopped its journal recovers to its changes and maybe one more.
pub record IsCarried (w : World) (p : PeerState) : Type 0 where
  pub id : p.id ≡ w.id
  pub history : IsHistory p.applied
  pub applied : AllIn p.applied w.made
  pub waiting : AllIn p.waiting w.made
  pub used : In p.actor w.used
  pub calm : p.device.can_fail ≡ false
  pub live : p.stopped ≡ false → IsLive w.made p
  pub dead : IsTrue p.stopped → IsDead w.made p

-- The bytes are a message, and each change that it carries was made.
pub record IsMessageOf (made : List ChangeParts) (bytes : List ℕ) : Type 0 where
  pub message : MessageParts
  pub reads : message_at bytes ≡ Ok message
  pub carries : AllIn message.changes made

-- No two running peers have one actor.
abbrev pub LivesApart : World → Type 0
LivesApart w =
    (n m : ℕ) (p q : PeerState) → HasPeer w n p → HasPeer w m q → p.stopped ≡ false → q.stopped ≡ false
    → p.actor ≡ q.actor → n ≡ m

-- As lists the world is coherent; the changes that were made are by actors that are used; and each peer and each entry of
-- the wire is as it should be.
pub record WorldInvariant (w : World) : Type 0 where
  pub is_id : IsDocId w.id
  pub coherent : Coherent (lists_of w)
  pub limits : AllChanges w.made
  pub used : (c : ChangeParts) → In c w.made → In c.actor w.used
  pub peers : (n : ℕ) (p : PeerState) → HasPeer w n p → IsCarried w p
  pub lives : LivesApart w
  pub wire : (e : WireEntry) → In e w.wire → IsMessageOf w.made e.bytes
