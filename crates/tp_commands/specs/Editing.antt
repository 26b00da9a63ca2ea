-- What commands do to journals.
use Rattle.std.specs.Prelude.{◌≡◌, ℕ, List, [], ◌∷◌, ◌++◌, length, false, Option, Some, None}
use Rattle.tp_opid.specs.declared.actor.Actor.{Actor}
use Rattle.tp_opid.specs.declared.doc_id.DocId.{DocId}
use Rattle.tp_opid.specs.declared.hash.Hash.{Hash}
use Rattle.tp_layout.specs.declared.parts.ChangeParts.{ChangeParts}
use Rattle.tp_change.specs.ChangeHash.{hash_of}
use Rattle.tp_edit.specs.declared.splice.Splice.{Splice}
use Rattle.tp_document.specs.Editing.{EditRequest, AsksNothing, IsAcceptedEdit, asking}
use Rattle.tp_recovery.specs.Layout.{journal}
use Rattle.tp_recovery.specs.Recovery.{Recovers}
use Rattle.tp_peer.specs.Actors.{has_actor}
use Rattle.tp_peer.specs.PeerState.{PeerState}
use Rattle.tp_peer.specs.PeerStep.{PeerStep, Merge, Merged}
use Rattle.tp_peer.specs.Taking.{Report}

-- the journal after an edit that was asked of the changes C, and what it answered: nothing where it asked nothing, and
-- else the hash of its one change
abbrev pub MakesChange : DocId → List ChangeParts → EditRequest → Option Hash → List ℕ → Type 0
MakesChange id C asked None after = AsksNothing C asked × (after ≡ journal id C)
MakesChange id C asked (Some h) after = (c : ChangeParts) × IsAcceptedEdit C asked c × (h ≡ hash_of c) × (after ≡ journal id (C ++ c ∷ []))

-- One splice was made, under an actor that none of the journal's changes has, and the change was put after them.
pub record EditsJournal (before : List ℕ) (actor : Actor) (splice : Splice) (time : ℕ) (message : List ℕ) (made : Option Hash) (after : List ℕ) : Type 0 where
  pub id : DocId
  pub changes : List ChangeParts
  pub keep : ℕ
  pub recovers : Recovers before id changes keep
  pub free : has_actor changes actor ≡ false
  pub makes : MakesChange id changes (asking actor (splice ∷ []) time message) made after

-- A peer took the changes of another journal, which was opened under the actor: `count` entered.
pub record TakesJournal (p : PeerState) (other : List ℕ) (actor : Actor) (count : ℕ) (after : List ℕ) : Type 0 where
  pub source : PeerState
  pub result : PeerState
  pub report : Report
  pub keep : ℕ
  pub recovers : Recovers other source.id source.applied keep
  pub free : has_actor source.applied actor ≡ false
  pub step : PeerStep p (Merge source) (Merged report) result
  pub counted : count ≡ length report.applied
  pub journal_is : after ≡ result.journal
