-- What makes the text of a journal another one.
use Rattle.std.specs.Prelude.{◌≡◌, ◌⊎◌, ◌+◌, ◌<◌, ◌≤◌, ℕ, List, [], ◌∷◌, ◌++◌, None, false, length, map}
use Rattle.tp_opid.specs.declared.actor.Actor.{Actor}
use Rattle.tp_opid.specs.declared.doc_id.DocId.{DocId}
use Rattle.tp_opid.specs.declared.hash.Hash.{Hash}
use Rattle.tp_layout.specs.declared.parts.ChangeParts.{ChangeParts}
use Rattle.tp_change.specs.ChangeHash.{hash_of}
use Rattle.tp_layout.specs.declared.limits.TheConstants.{MAX_OPS}
use Rattle.tp_diff.specs.Differences.{LeadAcross}
use Rattle.tp_edit.specs.declared.splice.Splice.{Splice}
use Rattle.tp_edit.specs.Splices.{count_of_splice, total_count}
use Rattle.tp_document.specs.Editing.{IsAcceptedEdit, asking}
use Rattle.tp_recovery.specs.Layout.{journal}
use Rattle.tp_recovery.specs.Recovery.{Recovers}
use Rattle.tp_peer.specs.Actors.{has_actor}
use Rattle.tp_peer.specs.Appending.{JournalState}
use Rattle.tp_peer.specs.Opening.{Reopens}
use Rattle.tp_peer.specs.PeerState.{PeerState}
use Rattle.tp_peer.specs.PeerStep.{Edit}
use Rattle.tp_edit.specs.Text.{IsTextOf}
use Rattle.tp_commands.specs.declared.error.UpdateError.{UpdateError}
use Rattle.tp_commands.specs.declared.error.CommandError.{CommandError}
use Rattle.tp_commands.specs.declared.error.CommandError.TheVariants.{NotEmpty, OutOfMemory}
use Rattle.tp_commands.specs.CommandError.{at_once}
use Rattle.tp_commands.specs.Cutting.{AreStretchesCut}
use Rattle.tp_commands.specs.HalfWay.{IsLeftAt, stopping_place}
use Rattle.tp_commands.specs.Refusing.{RefusesJournalOpening, RefusesCall}

-- The first of the later splices would make the operations of these more than a change may have.
abbrev pub IsFullBefore : List Splice → List Splice → Type 0
IsFullBefore next [] = Unit {0}
IsFullBefore next (s ∷ later) = MAX_OPS < total_count next + count_of_splice s

-- The changes are the edits of the splices in turn, but for the rest of these, at the time and with the message: each is an edit
-- of the actor's on the changes before it, by as many of the splices that come next as one change may have the operations of.
abbrev pub AreEditsOf : Actor → ℕ → List ℕ → List ChangeParts → List Splice → List Splice → List ChangeParts → Type 0
AreEditsOf actor time message C ss rest [] = ss ≡ rest
AreEditsOf actor time message C ss rest (c ∷ cs) =
    (next : List Splice) × (later : List Splice) × (ss ≡ next ++ later) × IsFullBefore next later
    × IsAcceptedEdit C (asking actor next time message) c × AreEditsOf actor time message (C ++ c ∷ []) later rest cs

-- the hashes of changes
abbrev pub hashes_of : List ChangeParts → List Hash
hashes_of C = map hash_of C

-- The journal's text was made this one by changes of an actor that none of those before has, which were put after
-- these. They are the edits of the differences between the text that the journal had and this one: none where both are
-- equal, and one alone where the differences together are of no more operations than a change may have. They go from the
-- beginning of the text to its end, and what one change can't hold of a stretch is cut so that deletes and inserts go together.
pub record UpdatesJournal (before : List ℕ) (actor : Actor) (text : List ℕ) (time : ℕ) (message : List ℕ) (hashes : List Hash) (after : List ℕ) : Type 0 where
  pub id : DocId
  pub changes : List ChangeParts
  pub keep : ℕ
  pub recovers : Recovers before id changes keep
  pub free : has_actor changes actor ≡ false
  pub old : List ℕ
  pub was_text : IsTextOf changes old
  pub differences : List Splice
  pub leads : LeadAcross MAX_OPS old text differences
  pub cut : AreStretchesCut old text differences
  pub made : List ChangeParts
  pub edits : AreEditsOf actor time message changes differences [] made
  pub none : old ≡ text → made ≡ []
  pub one : total_count differences ≤ MAX_OPS → length made ≤ 1
  pub hashes_are : hashes ≡ hashes_of made
  pub is_text : IsTextOf (changes ++ made) text
  pub journal_is : after ≡ journal id (changes ++ made)

-- The peer made the edits of the splices but for the rest, at the time and with the message, whose changes have these hashes,
-- and runs on.
pub record MakesEdits (p : PeerState) (ss rest : List Splice) (time : ℕ) (message : List ℕ) (hashes : List Hash) (after : PeerState) : Type 0 where
  pub made : List ChangeParts
  pub edits : AreEditsOf p.actor time message p.applied ss rest made
  pub hashes_are : hashes ≡ hashes_of made
  pub applied : after.applied ≡ p.applied ++ made
  pub running : after.stopped ≡ false
  pub same_id : after.id ≡ p.id
  pub same_actor : after.actor ≡ p.actor

-- After whatever edits of splices before, the edit of the ones that come next was made too.
abbrev pub MakesNext : List Splice → ℕ → List ℕ → List Hash → PeerState → List Hash → PeerState → Type 0
MakesNext next time message hashes before hashes' after =
    (p : PeerState) (ss later : List Splice) → MakesEdits p ss (next ++ later) time message hashes before → IsFullBefore next later
    → MakesEdits p ss later time message hashes' after

-- The peer's text was made this one, by the edits of the differences between the two.
pub record MakesText (p : PeerState) (text : List ℕ) (time : ℕ) (message : List ℕ) (hashes : List Hash) (after : PeerState) : Type 0 where
  pub old : List ℕ
  pub was_text : IsTextOf p.applied old
  pub differences : List Splice
  pub leads : LeadAcross MAX_OPS old text differences
  pub cut : AreStretchesCut old text differences
  pub makes : MakesEdits p differences [] time message hashes after
  pub is_text : IsTextOf after.applied text

-- the text of the journal's changes is empty
abbrev pub HasNoCharacters : List ℕ → Type 0
HasNoCharacters bytes = (id : DocId) × (changes : List ChangeParts) × (keep : ℕ) × Recovers bytes id changes keep × IsTextOf changes []

-- why the next edit isn't made: memory was refused, or the peer refused it
abbrev pub RefusesNextEdit : PeerState → List Splice → ℕ → List ℕ → CommandError → Type 0
RefusesNextEdit p next time message e = (e ≡ OutOfMemory) ⊎ RefusesCall p (Edit next time message) e

-- The peer made the edits of the first of the splices, and was refused the next; the place is where those that are left begin.
pub record StopsEdits (p : PeerState) (ss : List Splice) (time : ℕ) (message : List ℕ) (e : UpdateError) : Type 0 where
  pub now : PeerState
  pub made : List ChangeParts
  pub first : List Splice
  pub rest : List Splice
  pub next : List Splice
  pub parts : ss ≡ first ++ rest
  pub edits : AreEditsOf p.actor time message p.applied ss rest made
  pub applied : now.applied ≡ p.applied ++ made
  pub refuses : RefusesNextEdit now next time message e.error
  pub place_is : e.place ≡ stopping_place first rest

-- The peer's text was to be made this one by the edits of the differences between the two. Some of them were made, up to the
-- place.
pub record StopsText (p : PeerState) (text : List ℕ) (time : ℕ) (message : List ℕ) (e : UpdateError) (after : PeerState) : Type 0 where
  pub old : List ℕ
  pub was_text : IsTextOf p.applied old
  pub differences : List Splice
  pub leads : LeadAcross MAX_OPS old text differences
  pub cut : AreStretchesCut old text differences
  pub stops : StopsEdits p differences time message e
  pub left : IsLeftAt old text after.applied e.place

-- why a peer's text wasn't made another one: memory was refused at once, or the next of the edits
abbrev pub IsNotRewritten : PeerState → List ℕ → ℕ → List ℕ → UpdateError → PeerState → Type 0
IsNotRewritten p text time message e after = (e ≡ at_once OutOfMemory) ⊎ StopsText p text time message e after

-- why the text of a journal wasn't made another one: it wasn't opened, or so
abbrev pub IsNotUpdated : JournalState → Actor → List ℕ → ℕ → List ℕ → UpdateError → Type 0
IsNotUpdated k actor text time message e =
    ((e.place ≡ None) × RefusesJournalOpening k actor e.error) ⊎ ((p : PeerState) × (after : PeerState) × Reopens k actor p × IsNotRewritten p text time message e after)

-- why a text wasn't brought into a journal: its text isn't empty, memory was refused, or as an update
abbrev pub IsNotImported : JournalState → Actor → List ℕ → ℕ → List ℕ → UpdateError → Type 0
IsNotImported k actor text time message e = (e ≡ at_once NotEmpty) ⊎ ((e ≡ at_once OutOfMemory) ⊎ IsNotUpdated k actor text time message e)
