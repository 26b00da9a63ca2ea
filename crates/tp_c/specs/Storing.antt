-- Documents that take the place of an editor's.
use Rattle.std.specs.Prelude.{◌≡◌, ℕ, List, [], Result, MatchResult, OnOk, OnErr}
use Rattle.tp_journal.specs.Journal.{no_device}
use Rattle.tp_peer.specs.PeerState.{opened_peer}
use Rattle.tp_codec.specs.Gives.{Gives}
use Rattle.tp_store.specs.Loading as loading
use Rattle.tp_store.specs.Saved.{IsSaved}
use Rattle.tp_store.specs.declared.error.StoreError.{StoreError}
use Rattle.tp_store.specs.declared.error.StoreError.TheVariants.{OutOfMemory}
use Rattle.tp_editor.specs.EditorState.{EditorState, new_editor}
use Rattle.tp_c.specs.declared.opening.TheConstants.{NO_ID}
use Rattle.tp_c.specs.Status.{number_of_store}

-- an editor of a document with this identifier and no changes, in memory alone and edited under an actor of zeros,
-- without links and a session, and with an empty answer
abbrev pub empty_editor : List ℕ → EditorState
empty_editor id = new_editor (opened_peer (record { 0 = id }) (record { 0 = NO_ID }) [] no_device)

-- The bytes were loaded as a saved file, with this status.
pub record Loads (e : EditorState) (bytes : List ℕ) (status : ℕ) (e' : EditorState) : Type 0 where
  pub answered : Result (Unit {0}) StoreError
  pub status_is : MatchResult answered (λ x. status ≡ 0) (λ e. status ≡ number_of_store e)
  pub found : OnOk answered (IsSaved bytes e'.peer.id e'.peer.applied)
  pub exact : Gives OutOfMemory (λ x. (e'.peer.id, e'.peer.applied)) answered (loading.document_of_bytes bytes)
  pub fresh : OnOk answered (e' ≡ record (new_editor (opened_peer e'.peer.id e.peer.actor e'.peer.applied no_device)) { answer = e.answer })
  pub same : OnErr answered (e' ≡ e)
