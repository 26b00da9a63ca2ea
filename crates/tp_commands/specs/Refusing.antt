-- Why a command was refused.
use Rattle.std.specs.Prelude.{◌≡◌, ◌⊎◌, ℕ, List, ◌∷◌, [], Some, None, false}
use Rattle.tp_opid.specs.declared.actor.Actor.{Actor}
use Rattle.tp_opid.specs.declared.doc_id.DocId.{DocId}
use Rattle.tp_opid.specs.declared.hash.Hash.{Hash}
use Rattle.tp_opid.specs.declared.op_id.OpId.{OpId}
use Rattle.tp_layout.specs.declared.parts.ChangeParts.{ChangeParts}
use Rattle.tp_snapshot.specs.Showing.{HasElementAt, HasPosition}
use Rattle.tp_document.specs.declared.error.DocError.TheVariants.{OutOfRange, UnknownElement, UnknownHead}
use Rattle.tp_edit.specs.declared.splice.Splice.{Splice}
use Rattle.tp_history.specs.Named.{has_all}
use Rattle.tp_history.specs.Past.{past}
use Rattle.tp_recovery.specs.Layout.{journal}
use Rattle.tp_recovery.specs.Refusals.{IsJournalFault}
use Rattle.tp_peer.specs.declared.error.PeerError.{PeerError}
use Rattle.tp_peer.specs.Appending.{JournalState}
use Rattle.tp_peer.specs.Opening.{RefusesNewJournal, RefusesReopening, Reopens}
use Rattle.tp_peer.specs.PeerState.{PeerState}
use Rattle.tp_peer.specs.PeerStep.{Call, Edit, Merge, PeerStep, Refused}
use Rattle.tp_store.specs.declared.error.StoreError.{StoreError}
use Rattle.tp_commands.specs.declared.error.CommandError.{CommandError}
use Rattle.tp_commands.specs.declared.error.CommandError.TheVariants.{OutOfMemory, Doc}
use Rattle.tp_commands.specs.CommandError.{command_refusal_of_bytes, refusal_of_peer}
use Rattle.tp_commands.specs.Reading.{HasChanges}

-- ---- of bytes

-- Memory was refused; or the bytes are no journal, and this is their first fault.
abbrev pub RefusesJournal : List ℕ → CommandError → Type 0
RefusesJournal journal e = (e ≡ OutOfMemory) ⊎ ((fault : StoreError) × (e ≡ command_refusal_of_bytes fault) × IsJournalFault journal fault)

-- a journal's changes don't have all the heads
abbrev pub LacksHead : List ℕ → List Hash → Type 0
LacksHead journal hs = (changes : List ChangeParts) × HasChanges journal changes × (has_all changes hs ≡ false)

-- why the text at the heads wasn't read
abbrev pub HasNoText : List ℕ → List Hash → CommandError → Type 0
HasNoText journal hs e = RefusesJournal journal e ⊎ ((e ≡ Doc UnknownHead) × LacksHead journal hs)

-- why the texts at some heads and at others weren't read
abbrev pub HasNoTexts : List ℕ → List Hash → List Hash → CommandError → Type 0
HasNoTexts journal from to e = RefusesJournal journal e ⊎ ((e ≡ Doc UnknownHead) × (LacksHead journal from ⊎ LacksHead journal to))

-- the text at the heads ends before the position
abbrev pub EndsBefore : List ℕ → ℕ → List Hash → Type 0
EndsBefore journal at hs = (changes : List ChangeParts) × HasChanges journal changes × HasElementAt (past changes hs) at None

-- the element at the position of the text at the heads isn't among those of all changes
abbrev pub IsNowhere : List ℕ → ℕ → List Hash → Type 0
IsNowhere journal at hs =
    (changes : List ChangeParts) × (x : OpId) × HasChanges journal changes × HasElementAt (past changes hs) at (Some x) × HasPosition changes x None

-- why the character at a position of the text at the heads wasn't found
abbrev pub HasNoPosition : List ℕ → ℕ → List Hash → CommandError → Type 0
HasNoPosition journal at hs e =
    HasNoText journal hs e ⊎ (((e ≡ Doc OutOfRange) × EndsBefore journal at hs) ⊎ ((e ≡ Doc UnknownElement) × IsNowhere journal at hs))

-- ---- of journals

-- why a journal of the document wasn't begun
abbrev pub RefusesBeginning : JournalState → DocId → CommandError → Type 0
RefusesBeginning k id e = (error : PeerError) × (after : JournalState) × (e ≡ refusal_of_peer error) × RefusesNewJournal (journal id []) k error after

-- why a journal wasn't opened under the actor
abbrev pub RefusesJournalOpening : JournalState → Actor → CommandError → Type 0
RefusesJournalOpening k actor e = (error : PeerError) × (after : JournalState) × (e ≡ refusal_of_peer error) × RefusesReopening k actor error after

-- the peer refused the call
abbrev pub RefusesCall : PeerState → Call → CommandError → Type 0
RefusesCall p call e = (error : PeerError) × (after : PeerState) × (e ≡ refusal_of_peer error) × PeerStep p call (Refused error) after

-- why a journal wasn't edited: it wasn't opened, or the peer on it refused
abbrev pub RefusesEditing : JournalState → Actor → Splice → ℕ → List ℕ → CommandError → Type 0
RefusesEditing k actor splice time message e =
    RefusesJournalOpening k actor e ⊎ ((p : PeerState) × Reopens k actor p × RefusesCall p (Edit (splice ∷ []) time message) e)

-- why a peer didn't take another journal's changes: that wasn't opened, or the peer refused
abbrev pub RefusesMerging : PeerState → JournalState → Actor → CommandError → Type 0
RefusesMerging p other actor e = RefusesJournalOpening other actor e ⊎ ((source : PeerState) × Reopens other actor source × RefusesCall p (Merge source) e)
