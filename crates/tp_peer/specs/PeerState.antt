-- What contracts see of a peer, and what every peer keeps.
use Rattle.std.specs.Prelude.{◌≡◌, ◌⊎◌, ℕ, ◌≤◌, List, [], ◌++◌, length, take, Bool, true, false, None, drop}
use Rattle.tp_peer.specs.Common.{Actor, DocId, ChangeParts, Device, with_fuse, infallible, IsChange, cause, record_of, journal, IsDocId, SyncParts, DocState, most_waiting, IsHistory}
use Rattle.tp_peer.specs.Appending.{JournalState}
use Rattle.tp_peer.specs.Links.{AreLinks}

-- The identifier of its document and the actor of its edits; the changes that are applied, in the order in which they
-- entered; those that wait, in the order in which they came; its links, in the order in which they were made; the
-- content of its journal, and the device of that; and whether it has stopped.
pub record PeerState : Type 0 where
  pub id : DocId
  pub actor : Actor
  pub applied : List ChangeParts
  pub waiting : List ChangeParts
  pub links : List (ℕ × SyncParts)
  pub journal : List ℕ
  pub device : Device
  pub stopped : Bool

-- The bytes are a beginning of one record: that of a change which could enter next after C.
pub record IsTornRecord (C : List ChangeParts) (bytes : List ℕ) : Type 0 where
  pub change : ChangeParts
  pub limits : IsChange change
  pub fits : cause C change ≡ None
  pub count : ℕ
  pub torn : bytes ≡ take count (record_of change)

-- The bytes are none, or a beginning of one record.
abbrev pub IsTorn : List ChangeParts → List ℕ → Type 0
IsTorn C bytes = (bytes ≡ []) ⊎ IsTornRecord C bytes

-- The journal is that of the applied changes. Where the peer has stopped, a beginning of one record may be after it.
abbrev pub HasJournal : Bool → DocId → List ChangeParts → List ℕ → Type 0
HasJournal false id C content = content ≡ journal id C
HasJournal true id C content = (bytes : List ℕ) × IsTorn C bytes × (content ≡ journal id C ++ bytes)

-- What every peer keeps: its changes are a history, and its journal has them; at most 1,024 wait; and it has at most
-- 1,024 links.
pub record IsPeer (p : PeerState) : Type 0 where
  pub is_id : IsDocId p.id
  pub history : IsHistory p.applied
  pub kept : HasJournal p.stopped p.id p.applied p.journal
  pub few : length p.waiting ≤ most_waiting
  pub links : AreLinks p.links

-- a peer with these changes, none that waits, no links, and the journal of the changes
abbrev pub opened_peer : DocId → Actor → List ChangeParts → Device → PeerState
opened_peer id actor C device =
    record { id = id; actor = actor; applied = C; waiting = []; links = []; journal = journal id C; device = device; stopped = false }

-- what is seen of a peer, from its parts
abbrev pub peer_state : Actor → DocState → List (ℕ × SyncParts) → JournalState → Bool → PeerState
peer_state actor d links k stopped =
    record { id = d.id; actor = actor; applied = d.applied; waiting = d.waiting; links = links; journal = k.content; device = k.device; stopped = stopped }

-- the peer, whose journal's next append is to fail and to keep that many bytes
abbrev pub arming : PeerState → ℕ → PeerState
arming p kept = record p { device = with_fuse kept p.device }

-- the peer, on whose journal no call can fail
abbrev pub disarming : PeerState → PeerState
disarming p = record p { device = infallible p.device }

-- the changes that are applied in the peer p' beyond those of p
abbrev pub gained_changes : PeerState → PeerState → List ChangeParts
gained_changes p p' = drop (length p.applied) p'.applied
