-- The statuses that exports answer: 0 where the call was done, else the number of its refusal.
use Rattle.std.specs.Prelude.{◌≡◌, ◌⊎◌, ℕ, ◌+◌, Result, Ok, Err}
use Rattle.tp_document.specs.DocError as document
use Rattle.tp_document.specs.declared.error.DocError.{DocError}
use Rattle.tp_editor.specs.declared.error.EditorError.{EditorError}
use Rattle.tp_editor.specs.declared.error.EditorError.TheVariants as editor
use Rattle.tp_editor.specs.declared.error.EditorOpenError.{EditorOpenError}
use Rattle.tp_editor.specs.declared.error.EditorOpenError.TheVariants.{File, Peer}
use Rattle.tp_journal.specs.declared.opening.OpenError.TheVariants as file
use Rattle.tp_peer.specs.PeerError as peers
use Rattle.tp_peer.specs.declared.error.PeerError.{PeerError}
use Rattle.tp_peer.specs.declared.error.PeerError.TheVariants as peer
use Rattle.tp_session.specs.NetError as session
use Rattle.tp_session.specs.declared.error.NetError.{NetError}
use Rattle.tp_session.specs.declared.error.NetError.TheVariants as net
use Rattle.tp_store.specs.StoreError as store
use Rattle.tp_store.specs.declared.error.StoreError.{StoreError}
use Rattle.tp_message.specs.SyncError as sync

-- the number of a document's refusal
abbrev pub number_of_doc : DocError → ℕ
number_of_doc e = 100 + document.code_of e

-- that of a saved file
abbrev pub number_of_store : StoreError → ℕ
number_of_store e = 300 + store.code_of e

-- the number of a peer's refusal, where `memory` is that of want of memory; where it is one of the layers below, that
-- of the layer
abbrev pub number_of_peer : ℕ → PeerError → ℕ
number_of_peer memory (peer.Doc e) = number_of_doc e
number_of_peer memory (peer.Sync e) = 200 + sync.code_of e
number_of_peer memory (peer.Store e) = number_of_store e
number_of_peer memory peer.OutOfMemory = memory
number_of_peer memory e = 500 + peers.code_of e

-- the status of a call on a peer
abbrev pub peer_status : {X : Type 0} → ℕ → Result X PeerError → ℕ
peer_status memory (Ok x) = 0
peer_status memory (Err e) = number_of_peer memory e

-- the number of an editor's refusal
abbrev pub number_of_editor : ℕ → EditorError → ℕ
number_of_editor memory editor.NoLink = 2
number_of_editor memory (editor.Peer e) = number_of_peer memory e

-- the status of a call on an editor
abbrev pub editor_status : {X : Type 0} → ℕ → Result X EditorError → ℕ
editor_status memory (Ok x) = 0
editor_status memory (Err e) = number_of_editor memory e

-- the number of an error of a session; where the other side sent a refusal, its number
abbrev pub number_of_session : NetError → ℕ
number_of_session (net.Peer e) = number_of_peer 509 e
number_of_session (net.RefusedByOther code) = 700 + code
number_of_session e = 600 + session.code_of e

-- that of an editor that wasn't opened
abbrev pub number_of_opening : EditorOpenError → ℕ
number_of_opening (File file.Busy) = 801
number_of_opening (File file.Io) = 802
number_of_opening (File file.OutOfMemory) = 803
number_of_opening (Peer e) = number_of_peer 509 e

-- It was done, or refused with this number, which is its only refusal.
abbrev pub IsDoneUnless : ℕ → ℕ → Type 0
IsDoneUnless refusal status = (status ≡ 0) ⊎ (status ≡ refusal)
