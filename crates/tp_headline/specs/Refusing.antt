-- When a world refuses an event.
use Rattle.std.specs.Prelude.{◌≡◌, ℕ, nat_le, List, length, Bool, true, false, Some, IsSome, IsTrue}
use Rattle.tp_headline.specs.Common.{slice_get, In, AllIn, Actor, ChangeParts, hash_of, record_of, changes_in, PeerState}
use Rattle.tp_list.specs.FailsFirst.{FailsFirst}
use Rattle.tp_document.specs.Editing.{IsAcceptedEdit, asking}
use Rattle.tp_peer.specs.PeerStep as peer
use Rattle.tp_headline.specs.declared.error.WorldError.{WorldError}
use Rattle.tp_headline.specs.declared.error.WorldError.TheVariants.{NoPeer, ActorUsed, ForeignChange, HashClash, Stopped, NoEntry, OutOfMemory}
use Rattle.tp_headline.specs.WorldError.{code_of}
use Rattle.tp_headline.specs.Call as call
use Rattle.tp_headline.specs.Call.{Alone}
use Rattle.tp_headline.specs.Event.{Event, Crash, called_in, peers_of, running_of, actor_of, foreign_bytes_of, wire_entries_of}
use Rattle.tp_headline.specs.World.{World, HasPeer}

-- The call on the peer p is an edit, and c is its change.
abbrev pub IsEditOf : PeerState → peer.Call → ChangeParts → Type 0
IsEditOf p (peer.Edit splices time message) c = IsAcceptedEdit p.applied (asking p.actor splices time message) c
IsEditOf p made c = ⊥

-- The call is an edit of the peer numbered n, which runs, and c is its change.
pub record IsEditAt (w : World) (n : ℕ) (made : peer.Call) (c : ChangeParts) : Type 0 where
  pub peer : PeerState
  pub present : HasPeer w n peer
  pub runs : peer.stopped ≡ false
  pub edited : IsEditOf peer made c

-- c is the change of the edit that the event is, or during which a peer crashes in it.
pub record WouldEdit (w : World) (e : Event) (c : ChangeParts) : Type 0 where
  pub number : ℕ
  pub made : peer.Call
  pub called : called_in e ≡ Some (number, Alone made)
  pub edit : IsEditAt w number made c

-- the event keeps the whole record of the change
abbrev pub keeps_whole : Event → ChangeParts → Bool
keeps_whole (Crash n during kept actor) c = nat_le (length (record_of c)) kept
keeps_whole e c = true

-- The event would make the change c: by an edit, or by one during which the peer crashes once c's record is whole.
abbrev pub WouldMake : World → Event → ChangeParts → Type 0
WouldMake w e c = WouldEdit w e c × IsTrue (keeps_whole e c)

-- What each refusal asks of an event.
-- NoPeer: each peer that it names is there.
-- ActorUsed: the actor that it names wasn't named before.
-- ForeignChange: each change that delivered bytes of any origin carry was made. Bytes that are no message carry none.
--   Entries of the wire carry changes that were made, in each world that a run reaches (Carried).
-- HashClash: a change that it would make has the hash of no other change that was made.
-- Stopped: no peer that it needs has stopped.
-- NoEntry: the wire has the entry that it names.
-- OutOfMemory: nothing.
abbrev pub Passes : World → Event → WorldError → Type 0
Passes w e NoPeer = (n : ℕ) → In n (peers_of e) → IsSome (slice_get w.peers n)
Passes w e ActorUsed = (a : Actor) → actor_of e ≡ Some a → In a w.used → ⊥
Passes w e ForeignChange = (bytes : List ℕ) → foreign_bytes_of e ≡ Some bytes → AllIn (changes_in bytes) w.made
Passes w e HashClash = (c d : ChangeParts) → WouldMake w e c → In d w.made → hash_of d ≡ hash_of c → d ≡ c
Passes w e Stopped = (n : ℕ) (p : PeerState) → In n (running_of e) → HasPeer w n p → p.stopped ≡ false
Passes w e NoEntry = (n : ℕ) → In n (wire_entries_of e) → IsSome (slice_get w.wire n)
Passes w e OutOfMemory = Unit {0}

-- The event passes every test.
abbrev pub MayHappen : World → Event → Type 0
MayHappen w e = (why : WorldError) → Passes w e why

-- The event is refused for this: the first test that it doesn't pass. Memory can be short at any time.
abbrev pub RefusesHappening : World → Event → WorldError → Type 0
RefusesHappening w e OutOfMemory = Unit {0}
RefusesHappening w e why = FailsFirst code_of (Passes w e) why

-- Nothing is against the call on a running peer: a message to a peer, the receipt of an entry of the wire, or that of bytes
-- which carry no change that nobody made, so any that are no message.
abbrev pub IsOpen : World → call.EventCall → Type 0
IsOpen w (call.Alone (peer.Generate to)) = IsSome (slice_get w.peers to)
IsOpen w (call.Alone (peer.Receive from bytes)) = IsSome (slice_get w.peers from) × AllIn (changes_in bytes) w.made
IsOpen w (call.Deliver entry) = IsSome (slice_get w.wire entry)
IsOpen w named = ⊥
