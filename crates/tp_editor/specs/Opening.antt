-- Opening an editor on the journal in a file. What bytes a file has is the system's matter: some journal was in it.
use Rattle.std.specs.Prelude.{◌≡◌, ◌⊎◌, ℕ, List, []}
use Rattle.tp_opid.specs.declared.actor.Actor.{Actor}
use Rattle.tp_opid.specs.declared.doc_id.DocId.{DocId}
use Rattle.tp_layout.specs.declared.parts.ChangeParts.{ChangeParts}
use Rattle.tp_recovery.specs.Layout.{journal}
use Rattle.tp_recovery.specs.Recovery.{HasTail, Recovers}
use Rattle.tp_recovery.specs.Whole.{HoldsRecord}
use Rattle.tp_store.specs.declared.error.StoreError.TheVariants.{Damaged}
use Rattle.tp_peer.specs.declared.error.PeerError.{PeerError}
use Rattle.tp_peer.specs.declared.error.PeerError.TheVariants.{Store}
use Rattle.tp_peer.specs.Appending.{JournalState}
use Rattle.tp_peer.specs.Opening.{IsUnused, Reopens}
use Rattle.tp_peer.specs.Opening as peer
use Rattle.tp_peer.specs.PeerState.{opened_peer}
use Rattle.tp_editor.specs.EditorState.{EditorState, new_editor}
use Rattle.tp_editor.specs.declared.error.EditorOpenError.{EditorOpenError}
use Rattle.tp_editor.specs.declared.error.EditorOpenError.TheVariants.{File, Peer}

-- A whole record is in the bytes that opening the journal would cut off: the record before these is damaged.
pub record CutsRecord (bytes : List ℕ) : Type 0 where
  pub id : DocId
  pub changes : List ChangeParts
  pub keep : ℕ
  pub tail : List ℕ
  pub recovers : Recovers bytes id changes keep
  pub is_tail : HasTail bytes keep tail
  pub holds : HoldsRecord tail

-- the refusal of such a journal
abbrev pub LosesRecord : List ℕ → PeerError → Type 0
LosesRecord bytes e = (cut : CutsRecord bytes) × (e ≡ Store (Damaged cut.keep))

-- The editor has the changes that the journal recovers to, is edited under the actor, and has no session. No whole
-- record was cut off.
pub record Opens (actor : Actor) (s : EditorState) : Type 0 where
  pub journal : JournalState
  pub reopens : Reopens journal actor s.peer
  pub whole : CutsRecord journal.content → ⊥
  pub fresh : s ≡ new_editor s.peer

-- The journal was unused, and the editor is of a new document, with no session.
pub record BeginsDocument (id : DocId) (actor : Actor) (s : EditorState) : Type 0 where
  pub journal : JournalState
  pub unused : IsUnused journal.content
  pub fresh : s ≡ new_editor (opened_peer id actor [] journal.device)

-- why no editor was opened on the journal: a peer refused it, or a record would be lost
abbrev pub RefusesOpeningOn : JournalState → Actor → PeerError → Type 0
RefusesOpeningOn k actor e = ((k' : JournalState) × peer.RefusesReopening k actor e k') ⊎ LosesRecord k.content e

-- why no editor was opened: the file was refused, or the journal in it
abbrev pub RefusesOpening : Actor → EditorOpenError → Type 0
RefusesOpening actor (File e) = Unit {0}
RefusesOpening actor (Peer e) = (k : JournalState) × RefusesOpeningOn k actor e

-- why none was begun
abbrev pub RefusesNewDocument : DocId → EditorOpenError → Type 0
RefusesNewDocument id (File e) = Unit {0}
RefusesNewDocument id (Peer e) = (k : JournalState) × (k' : JournalState) × peer.RefusesNewJournal (journal id []) k e k'
