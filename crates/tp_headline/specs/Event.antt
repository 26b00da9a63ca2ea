-- What may happen in a world of peers. Peers are numbered from 0, in the order in which they joined.
use Rattle.std.specs.Prelude.{ℕ, List, [], ◌∷◌, Option, Some, None}
use Rattle.tp_headline.specs.Common.{Actor}
use Rattle.tp_peer.specs.PeerStep as peer
use Rattle.tp_headline.specs.Call as call

-- Start actor: a peer with an empty document joins, under the actor.
-- Fork n actor: a peer with a copy of the peer's document joins, under the actor.
-- Call n made: the peer makes the call. A message that it makes goes on the wire, and a text that is read is recorded;
--   the peer at the other end of a link has no part in it. An entry that is delivered stays on the wire.
-- Crash n during kept actor: the peer crashes, between calls or during one. Its journal keeps what it held before
--   the call and the first `kept` bytes of what the call appends, and is opened again under the actor. Its device doesn't
--   fail in that call, and isn't set to fail from then on.
-- Fail n kept: the device of the peer's journal is set to fail in the next append, and to keep the first `kept` bytes of it. That
--   append ends the setting.
pub data Event : Type 0 where
  Start : Actor → Event
  Fork : ℕ → Actor → Event
  Call : ℕ → call.EventCall → Event
  Crash : ℕ → Option call.EventCall → ℕ → Actor → Event
  Fail : ℕ → ℕ → Event

-- ---- what an event names

-- the peer that makes a call in an event, and the call
abbrev pub called_in : Event → Option (ℕ × call.EventCall)
called_in (Call n made) = Some (n, made)
called_in (Crash n (Some made) kept actor) = Some (n, made)
called_in _ = None

-- the peers that a call names beside the one that makes it: the one at the other end of its link, or the one from which
-- it merges
abbrev pub named_by : call.EventCall → List ℕ
named_by (call.Alone (peer.Receive link bytes)) = link ∷ []
named_by (call.Alone (peer.Generate link)) = link ∷ []
named_by (call.Alone (peer.Forget link)) = link ∷ []
named_by (call.Merge from) = from ∷ []
named_by _ = []

-- the peers that a call needs beside the one that makes it
abbrev pub needed_by : call.EventCall → List ℕ
needed_by (call.Merge from) = from ∷ []
needed_by _ = []

-- the peers that an event names
abbrev pub peers_of : Event → List ℕ
peers_of (Start actor) = []
peers_of (Fork n actor) = n ∷ []
peers_of (Call n made) = n ∷ named_by made
peers_of (Crash n None kept actor) = n ∷ []
peers_of (Crash n (Some made) kept actor) = n ∷ named_by made
peers_of (Fail n kept) = n ∷ []

-- the peers that an event needs while they run: one that forks, one whose device is to fail, and those of a call
abbrev pub running_of : Event → List ℕ
running_of (Start actor) = []
running_of (Fork n actor) = n ∷ []
running_of (Call n made) = n ∷ needed_by made
running_of (Crash n None kept actor) = []
running_of (Crash n (Some made) kept actor) = n ∷ needed_by made
running_of (Fail n kept) = n ∷ []

-- the entries of the wire that an event names
abbrev pub wire_entries_of : Event → List ℕ
wire_entries_of (Call n (call.Deliver entry)) = entry ∷ []
wire_entries_of (Crash n (Some (call.Deliver entry)) kept actor) = entry ∷ []
wire_entries_of _ = []

-- the bytes of any origin that an event delivers
abbrev pub foreign_bytes_of : Event → Option (List ℕ)
foreign_bytes_of (Call n (call.Alone (peer.Receive link bytes))) = Some bytes
foreign_bytes_of (Crash n (Some (call.Alone (peer.Receive link bytes))) kept actor) = Some bytes
foreign_bytes_of _ = None

-- the actor that an event names
abbrev pub actor_of : Event → Option Actor
actor_of (Start actor) = Some actor
actor_of (Fork n actor) = Some actor
actor_of (Call n made) = None
actor_of (Crash n during kept actor) = Some actor
actor_of (Fail n kept) = None
