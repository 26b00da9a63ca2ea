-- Opening a peer on a journal: anew, again, or as a fork.
use Rattle.std.specs.Prelude.{◌≡◌, ◌⊎◌, ℕ, List, [], Bool, false, IsTrue}
use Rattle.tp_peer.specs.Common.{Actor, DocId, ChangeParts, DeviceFailsOnce, without_fuse, GrowsInPart, journal, Recovers}
use Rattle.tp_store.specs.declared.error.StoreError.TheVariants as store
use Rattle.tp_recovery.specs.Refusals.{IsJournalFault}
use Rattle.tp_peer.specs.declared.error.PeerError.{PeerError}
use Rattle.tp_peer.specs.declared.error.PeerError.TheVariants.{ActorInUse, JournalFailed, Stopped, JournalNotEmpty, Store, OutOfMemory}
use Rattle.tp_peer.specs.Actors.{has_actor}
use Rattle.tp_peer.specs.Appending.{JournalState}
use Rattle.tp_peer.specs.PeerState.{PeerState, opened_peer}

-- No header was written to the journal, or a part of one.
abbrev pub IsUnused : List ℕ → Type 0
IsUnused bytes = IsJournalFault bytes store.NoHeader

-- ---- anew

-- An unused journal was to begin with the bytes, and memory was refused: nothing changed, or it is empty.
abbrev pub IsClearedOrSame : JournalState → JournalState → Type 0
IsClearedOrSame k k' = (k' ≡ k) ⊎ (IsUnused k.content × (k' ≡ record k { content = [] }))

-- Its device failed: nothing changed, or it is empty but for a beginning of the bytes.
pub record IsTornOrSame (bytes : List ℕ) (k k' : JournalState) : Type 0 where
  pub is_append : Bool
  pub device : DeviceFailsOnce is_append k.device k'.device
  pub content : (k'.content ≡ k.content) ⊎ (IsUnused k.content × GrowsInPart [] k'.content bytes)

-- why a journal didn't begin with the bytes, and what it is then
abbrev pub RefusesNewJournal : List ℕ → JournalState → PeerError → JournalState → Type 0
RefusesNewJournal bytes k JournalNotEmpty k' = (IsUnused k.content → ⊥) × (k' ≡ k)
RefusesNewJournal bytes k OutOfMemory k' = IsClearedOrSame k k'
RefusesNewJournal bytes k JournalFailed k' = IsTornOrSame bytes k k'
RefusesNewJournal bytes k _ k' = ⊥

-- ---- as a fork

-- the peer p forks under the actor to the journal k: a peer with its changes
pub record Forks (p : PeerState) (actor : Actor) (k : JournalState) (fork : PeerState) : Type 0 where
  pub running : p.stopped ≡ false
  pub unused : IsUnused k.content
  pub free : has_actor p.applied actor ≡ false
  pub is : fork ≡ opened_peer p.id actor p.applied (without_fuse k.device)

-- why a document with the changes C wasn't copied to the journal for the actor, and what the journal is then
abbrev pub RefusesCopy : DocId → List ChangeParts → Actor → JournalState → PeerError → JournalState → Type 0
RefusesCopy id C actor k ActorInUse k' = IsUnused k.content × IsTrue (has_actor C actor) × (k' ≡ k)
RefusesCopy id C actor k e k' = RefusesNewJournal (journal id C) k e k'

-- why the peer p didn't fork, and what the journal is then
abbrev pub RefusesFork : PeerState → Actor → JournalState → PeerError → JournalState → Type 0
RefusesFork p actor k Stopped k' = IsTrue p.stopped × (k' ≡ k)
RefusesFork p actor k e k' = (p.stopped ≡ false) × RefusesCopy p.id p.applied actor k e k'

-- ---- again

-- the journal k recovers to changes, and none of them is the actor's: the peer has them
pub record Reopens (k : JournalState) (actor : Actor) (p : PeerState) : Type 0 where
  pub id : DocId
  pub applied : List ChangeParts
  pub keep : ℕ
  pub recovers : Recovers k.content id applied keep
  pub free : has_actor applied actor ≡ false
  pub is : p ≡ opened_peer id actor applied k.device

-- The journal k recovers to changes, and one of them is the actor's.
pub record IsInUse (k : JournalState) (actor : Actor) : Type 0 where
  pub id : DocId
  pub applied : List ChangeParts
  pub keep : ℕ
  pub recovers : Recovers k.content id applied keep
  pub used : IsTrue (has_actor applied actor)

-- why a peer wasn't opened again, and what the journal is then
abbrev pub RefusesReopening : JournalState → Actor → PeerError → JournalState → Type 0
RefusesReopening k actor ActorInUse k' = IsInUse k actor × (k' ≡ k)
RefusesReopening k actor (Store e) k' = IsJournalFault k.content e × (k' ≡ k)
RefusesReopening k actor OutOfMemory k' = k' ≡ k
RefusesReopening k actor JournalFailed k' = (k'.content ≡ k.content) × DeviceFailsOnce false k.device k'.device
RefusesReopening k actor _ k' = ⊥
