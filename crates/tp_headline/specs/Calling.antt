-- Calls on the peers of a world.
use Rattle.std.specs.Prelude.{◌≡◌, ℕ, List, [], ◌++◌, length, Some}
use Rattle.tp_headline.specs.Common.{Hash, ChangeParts, no_device, Recovers, PeerState}
use Rattle.tp_history.specs.Heads.{heads}
use Rattle.tp_peer.specs.Appending.{JournalState, journal_state}
use Rattle.tp_headline.specs.Reply.{EventReply, reply_to}
use Rattle.tp_headline.specs.World.{WireEntry, World, HasEntry, HasPeer, with_entry, with_made, with_peer, with_read}
use Rattle.tp_peer.specs.PeerStep as peer
use Rattle.tp_headline.specs.Call as call

-- a journal with the bytes, whose device isn't set to fail
abbrev pub in_memory : List ℕ → JournalState
in_memory bytes = journal_state bytes no_device

-- The call needs no other peer.
abbrev pub IsAlone : peer.Call → Type 0
IsAlone (peer.Merge other) = ⊥
IsAlone made = Unit {0}

-- The call that is named so, as a peer of the world makes it.
abbrev pub IsCall : World → call.EventCall → peer.Call → Type 0
IsCall w (call.Alone own) made = (made ≡ own) × IsAlone own
IsCall w (call.Merge from) made = (other : PeerState) × HasPeer w from other × (made ≡ peer.Merge other)
IsCall w (call.Deliver entry) made = (e : WireEntry) × HasEntry w entry e × (made ≡ peer.Receive e.sender e.bytes)

-- the changes that a call makes, of those that the journal has then beyond the list before: an edit makes its change, and
-- no other call makes any
abbrev pub made_by : peer.Call → List ChangeParts → List ChangeParts
made_by (peer.Edit splices time message) new = new
made_by made new = []

-- the heads at which a text of the peer p is read
abbrev pub heads_at : PeerState → peer.Call → List Hash
heads_at p (peer.ReadAt hashes) = hashes
heads_at p made = heads p.applied

-- the world, once the peer numbered n answered so: a message goes on the wire, and a text is recorded as read at the heads
abbrev pub noting : World → ℕ → List Hash → peer.Reply → World
noting w n heads (peer.Generated (Some message)) = with_entry w n message.0
noting w n heads (peer.Text text) = with_read w n heads text
noting w n heads answer = w

-- the world, once the peer numbered n, which was p.0, answered so to the call and is p.1, and its journal has the changes
-- `kept` beyond those of p.0
abbrev pub after_call : World → ℕ → PeerState × PeerState → peer.Call → peer.Reply → List ChangeParts → World
after_call w n p made answer kept = noting (with_made (with_peer w n p.1) (made_by made kept)) n (heads_at p.0 made) answer

-- The peer numbered n made the call that is named so, and the reply says what it answered. Where its journal recovers to
-- more than it had, an edit made that: its change counts as made where its whole record is there, also where the device
-- failed and the peer has stopped.
pub record Calls (w : World) (n : ℕ) (named : call.EventCall) (reply : EventReply) (w' : World) : Type 0 where
  pub before : PeerState
  pub present : HasPeer w n before
  pub made : peer.Call
  pub is : IsCall w named made
  pub answer : peer.Reply
  pub after : PeerState
  pub steps : peer.PeerStep before made answer after
  pub kept : List ChangeParts
  pub keep : ℕ
  pub recovers : Recovers after.journal after.id (before.applied ++ kept) keep
  pub replied : reply ≡ reply_to (length w.wire) answer
  pub left : w' ≡ after_call w n (before, after) made answer kept
