-- The peers of a world, by their numbers, and what becomes of one that crashes.
use Rattle.std.specs.Prelude.{◌≡◌, ◌⊎◌, ℕ, ◌<◌, ◌^◌, List, [], length, take, slice_set, true, Option, Some, None, Result, Ok, Err}
use Rattle.tp_event.specs.Common.{slice_get, Actor, ChangeParts, PeerError, PeerState, arming, disarming, in_memory, EventReply, Answered, Reopened}
use Rattle.tp_opid.specs.declared.doc_id.DocId.{DocId}
use Rattle.tp_journal.specs.Journal.{no_device}
use Rattle.tp_recovery.specs.Recovery.{recovery_of}
use Rattle.tp_peer.specs.Opening.{Forks, RefusesFork, RefusesReopening, Reopens}
use Rattle.tp_peer.specs.PeerStep as peer

-- the changes that were recovered, if any
abbrev pub recovered_changes : Option (DocId × List ChangeParts × ℕ) → List ChangeParts
recovered_changes None = []
recovered_changes (Some x) = x.1

-- a peer that has stopped and has only its journal left: its changes are those that the bytes recover to, and it has no
-- links
abbrev pub left_with : DocId → Actor → List ℕ → PeerState
left_with id actor bytes =
    record { id = id; actor = actor; applied = recovered_changes (recovery_of bytes); waiting = []; links = []; journal = bytes; device = no_device; stopped = true }

-- What a peer comes to, of this document and actor, where the bytes were opened again under another actor: one that
-- runs, or what is left of it.
abbrev pub OpensOn : DocId → Actor → List ℕ → Actor → EventReply → PeerState → Type 0
OpensOn id old bytes actor reply p' =
    ((reply ≡ Reopened) × Reopens (in_memory bytes) actor p')
    ⊎ ((error : PeerError) × (reply ≡ Answered (peer.Refused error)) × RefusesReopening (in_memory bytes) actor error (in_memory bytes)
    × (p' ≡ left_with id old bytes))

-- ---- by their numbers

-- The peer numbered n forks.
abbrev pub ForksAt : List PeerState → ℕ → Actor → Result PeerState PeerError → Type 0
ForksAt peers n actor (Ok fork) = (p : PeerState) × (slice_get peers n ≡ Some p) × Forks p actor (in_memory []) fork
ForksAt peers n actor (Err e) = (p : PeerState) × (slice_get peers n ≡ Some p) × RefusesFork p actor (in_memory []) e (in_memory [])

-- The call was made on the peer numbered n, which answered so.
pub record MemberSteps (peers : List PeerState) (n : ℕ) (call : peer.Call) (answer : peer.Reply) (peers' : List PeerState) : Type 0 where
  pub before : PeerState
  pub present : slice_get peers n ≡ Some before
  pub after : PeerState
  pub steps : peer.PeerStep before call answer after
  pub left : peers' ≡ slice_set peers n after

-- A merge into the peer numbered n from that numbered m.
pub record MergesAt (peers : List PeerState) (n m : ℕ) (answer : peer.Reply) (peers' : List PeerState) : Type 0 where
  pub other : PeerState
  pub there : slice_get peers m ≡ Some other
  pub at : MemberSteps peers n (peer.Merge other) answer peers'

-- The next append to the journal of the peer numbered n is set to fail and to keep `kept` bytes, and nothing else
-- changed.
pub record ArmsAt (peers : List PeerState) (n kept : ℕ) (peers' : List PeerState) : Type 0 where
  pub before : PeerState
  pub present : slice_get peers n ≡ Some before
  pub left : peers' ≡ slice_set peers n (arming before kept)

-- The device of the journal of the peer numbered n isn't to fail, and nothing else changed.
pub record DisarmsAt (peers : List PeerState) (n : ℕ) (peers' : List PeerState) : Type 0 where
  pub before : PeerState
  pub present : slice_get peers n ≡ Some before
  pub left : peers' ≡ slice_set peers n (disarming before)

-- The journal of the peer numbered n kept `keep` bytes at most, and was opened again under the actor.
pub record OpensAgainAt (peers : List PeerState) (n keep : ℕ) (actor : Actor) (reply : EventReply) (peers' : List PeerState) : Type 0 where
  pub before : PeerState
  pub present : slice_get peers n ≡ Some before
  pub small : length before.journal < 2 ^ 64
  pub after : PeerState
  pub opens : OpensOn before.id before.actor (take keep before.journal) actor reply after
  pub left : peers' ≡ slice_set peers n after
