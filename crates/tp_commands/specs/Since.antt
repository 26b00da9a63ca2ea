-- What makes the text of a journal, as it was at some heads, another one, beside what came since.
use Rattle.std.specs.Prelude.{◌≡◌, ◌⊎◌, ◌≤◌, ℕ, List, [], ◌∷◌, ◌++◌, Option, None, false, length, IsTrue}
use Rattle.tp_opid.specs.declared.actor.Actor.{Actor}
use Rattle.tp_opid.specs.declared.doc_id.DocId.{DocId}
use Rattle.tp_opid.specs.declared.hash.Hash.{Hash}
use Rattle.tp_layout.specs.declared.limits.TheConstants.{MAX_OPS}
use Rattle.tp_layout.specs.declared.parts.ChangeParts.{ChangeParts}
use Rattle.tp_change.specs.ChangeHash.{hash_of}
use Rattle.tp_diff.specs.Differences.{LeadAcross}
use Rattle.tp_document.specs.Editing.{DoesSplices, EditRequest, IsAcceptedEdit, asking}
use Rattle.tp_document.specs.declared.error.DocError.TheVariants.{UnknownHead}
use Rattle.tp_edit.specs.declared.splice.Splice.{Splice}
use Rattle.tp_edit.specs.Splices.{total_count}
use Rattle.tp_edit.specs.Text.{IsTextOf}
use Rattle.tp_history.specs.Named.{has_all}
use Rattle.tp_history.specs.Past.{past}
use Rattle.tp_recovery.specs.Layout.{journal}
use Rattle.tp_recovery.specs.Recovery.{Recovers}
use Rattle.tp_peer.specs.Actors.{has_actor}
use Rattle.tp_peer.specs.Appending.{JournalState}
use Rattle.tp_peer.specs.EditingAt.{RefusesEditAt}
use Rattle.tp_peer.specs.Links.{known_of}
use Rattle.tp_peer.specs.Opening.{Reopens}
use Rattle.tp_peer.specs.PeerState.{PeerState}
use Rattle.tp_peer.specs.declared.editing_at.EditAtError.{EditAtError}
use Rattle.tp_commands.specs.declared.error.CommandError.{CommandError}
use Rattle.tp_commands.specs.declared.error.CommandError.TheVariants.{Doc, OutOfMemory}
use Rattle.tp_commands.specs.declared.error.UpdateError.{UpdateError}
use Rattle.tp_commands.specs.CommandError.{at_once, refusal_of_edit_at}
use Rattle.tp_commands.specs.Cutting.{AreStretchesCut}
use Rattle.tp_commands.specs.HalfWay.{DoesFirst, IsLeftAt, stopping_place}
use Rattle.tp_commands.specs.Refusing.{RefusesJournalOpening}
use Rattle.tp_commands.specs.Updating.{IsFullBefore, IsNotUpdated, UpdatesJournal, hashes_of}

-- The peer is the same document under the same actor, and knows what it knew on each link; its list grew at its end.
pub record GrowsAlone (p p' : PeerState) : Type 0 where
  pub id : p'.id ≡ p.id
  pub actor : p'.actor ≡ p.actor
  pub new : List ChangeParts
  pub applied : p'.applied ≡ p.applied ++ new
  pub links : (m : ℕ) → known_of p'.links m ≡ known_of p.links m

-- where changes leave off that were made each on the one before it, and the first at H
abbrev pub heads_after : List Hash → List ChangeParts → List Hash
heads_after H [] = H
heads_after H (c ∷ cs) = heads_after (hash_of c ∷ []) cs

-- The changes are the edits of the splices in turn, except the rest of these, at the time and with the message. The first edits
-- the text that the changes C have at the hashes H, and each other one the text at the one before it, by as many of the splices
-- that come next as one change may have the operations of.
abbrev pub AreEditsAt : Actor → ℕ → List ℕ → List ChangeParts → List Hash → List Splice → List Splice → List ChangeParts → Type 0
AreEditsAt actor time message C H ss rest [] = ss ≡ rest
AreEditsAt actor time message C H ss rest (c ∷ cs) =
    (next : List Splice) × (later : List Splice) × (ss ≡ next ++ later) × IsFullBefore next later
    × IsAcceptedEdit (past C H) (asking actor next time message) c × AreEditsAt actor time message (C ++ c ∷ []) (hash_of c ∷ []) later rest cs

-- The text that the journal had at the heads was made this one by changes of an actor that none of those before has. The changes
-- are on these heads alone, and were put after all that is there. They are the edits of the differences between the text at the
-- heads and this one: none where both are equal, and one alone where the differences together are of no more operations than a
-- change may have. At the last of them the text is this one, whatever else the journal has.
pub record UpdatesSince (before : List ℕ) (heads : List Hash) (actor : Actor) (text : List ℕ) (time : ℕ) (message : List ℕ) (hashes : List Hash) (after : List ℕ) : Type 0 where
  pub id : DocId
  pub changes : List ChangeParts
  pub keep : ℕ
  pub recovers : Recovers before id changes keep
  pub free : has_actor changes actor ≡ false
  pub known : IsTrue (has_all changes heads)
  pub old : List ℕ
  pub was_text : IsTextOf (past changes heads) old
  pub differences : List Splice
  pub leads : LeadAcross MAX_OPS old text differences
  pub cut : AreStretchesCut old text differences
  pub made : List ChangeParts
  pub edits : AreEditsAt actor time message changes heads differences [] made
  pub none : old ≡ text → made ≡ []
  pub one : total_count differences ≤ MAX_OPS → length made ≤ 1
  pub hashes_are : hashes ≡ hashes_of made
  pub is_text : IsTextOf (past (changes ++ made) (heads_after heads made)) text
  pub journal_is : after ≡ journal id (changes ++ made)

-- The text was made this one: that at the heads, or the one of all changes where no heads are given.
abbrev pub UpdatesFrom : List Hash → List ℕ → Actor → List ℕ → ℕ → List ℕ → List Hash → List ℕ → Type 0
UpdatesFrom [] before actor text time message hashes after = UpdatesJournal before actor text time message hashes after
UpdatesFrom (h ∷ hs) before actor text time message hashes after = UpdatesSince before (h ∷ hs) actor text time message hashes after

-- The peer made the edits of the splices, except the rest, at the hashes H, under the actor, at the time and with the message.
-- The changes have these hashes, the next edit is to be made `on` these, and the peer runs on.
pub record MakesEditsAt (p : PeerState) (H : List Hash) (actor : Actor) (ss rest : List Splice) (time : ℕ) (message : List ℕ) (on hashes : List Hash) (after : PeerState) : Type 0 where
  pub made : List ChangeParts
  pub edits : AreEditsAt actor time message p.applied H ss rest made
  pub on_are : on ≡ heads_after H made
  pub hashes_are : hashes ≡ hashes_of made
  pub applied : after.applied ≡ p.applied ++ made
  pub running : after.stopped ≡ false
  pub same_id : after.id ≡ p.id

-- After whatever edits of splices before, the edit of the ones that come next was made too.
abbrev pub MakesNextAt : List Splice → Actor → ℕ → List ℕ → List Hash → List Hash → PeerState → List Hash → List Hash → PeerState → Type 0
MakesNextAt next actor time message on hashes before on' hashes' after =
    (p : PeerState) (H : List Hash) (ss later : List Splice) → MakesEditsAt p H actor ss (next ++ later) time message on hashes before → IsFullBefore next later
    → MakesEditsAt p H actor ss later time message on' hashes' after

-- The peer's text at the hashes H was made this one, by the edits of the differences between the two.
pub record MakesTextAt (p : PeerState) (H : List Hash) (actor : Actor) (text : List ℕ) (time : ℕ) (message : List ℕ) (hashes : List Hash) (after : PeerState) : Type 0 where
  pub known : IsTrue (has_all p.applied H)
  pub old : List ℕ
  pub was_text : IsTextOf (past p.applied H) old
  pub differences : List Splice
  pub leads : LeadAcross MAX_OPS old text differences
  pub cut : AreStretchesCut old text differences
  pub on : List Hash
  pub makes : MakesEditsAt p H actor differences [] time message on hashes after
  pub is_text : IsTextOf (past after.applied on) text

-- Why an edit on the hashes wasn't made: memory was refused, or the peer refused it.
abbrev pub RefusesNextAt : PeerState → List Hash → EditRequest → CommandError → Type 0
RefusesNextAt p on asked e =
    (e ≡ OutOfMemory) ⊎ ((error : EditAtError) × (after : PeerState) × RefusesEditAt p on asked error after × (e ≡ refusal_of_edit_at error))

-- The text at the hashes that the edit was to be made on is as it was, or the edit's splices were done.
abbrev pub LeavesOrDoes : PeerState → List Hash → List Splice → PeerState → Type 0
LeavesOrDoes p on next after =
    (hs : List Hash) × ((past after.applied hs ≡ past p.applied on) ⊎ DoesSplices (past p.applied on) (past after.applied hs) next)

-- The peer made the edits of the first of the splices at the hashes H, and was refused the next; the place is where those that
-- are left begin.
pub record StopsEditsAt (p : PeerState) (H : List Hash) (actor : Actor) (ss : List Splice) (time : ℕ) (message : List ℕ) (e : UpdateError) : Type 0 where
  pub now : PeerState
  pub made : List ChangeParts
  pub first : List Splice
  pub rest : List Splice
  pub next : List Splice
  pub parts : ss ≡ first ++ rest
  pub edits : AreEditsAt actor time message p.applied H ss rest made
  pub applied : now.applied ≡ p.applied ++ made
  pub refuses : RefusesNextAt now (heads_after H made) (asking actor next time message) e.error
  pub place_is : e.place ≡ stopping_place first rest

-- at some hashes the text is that of C with the first of the splices done
abbrev pub DoesFirstAt : List ChangeParts → List ChangeParts → List Splice → Option ℕ → Type 0
DoesFirstAt P C ss place = (hs : List Hash) × DoesFirst P (past C hs) ss place

-- The peer's text at the hashes H was to be made this one by the edits of the differences between the two. Some of them were
-- made, up to the place.
pub record StopsTextAt (p : PeerState) (H : List Hash) (actor : Actor) (text : List ℕ) (time : ℕ) (message : List ℕ) (e : UpdateError) (after : PeerState) : Type 0 where
  pub known : IsTrue (has_all p.applied H)
  pub old : List ℕ
  pub was_text : IsTextOf (past p.applied H) old
  pub differences : List Splice
  pub leads : LeadAcross MAX_OPS old text differences
  pub cut : AreStretchesCut old text differences
  pub stops : StopsEditsAt p H actor differences time message e
  pub on : List Hash
  pub left : IsLeftAt old text (past after.applied on) e.place

-- why a peer's text at the hashes wasn't made another one: memory was refused at once, a hash isn't that of a change, or the next
-- of the edits was refused
abbrev pub IsNotRewrittenAt : PeerState → List Hash → Actor → List ℕ → ℕ → List ℕ → PeerState → UpdateError → Type 0
IsNotRewrittenAt p H actor text time message after e =
    (e ≡ at_once OutOfMemory) ⊎ (((e ≡ at_once (Doc UnknownHead)) × (has_all p.applied H ≡ false)) ⊎ StopsTextAt p H actor text time message e after)

-- why the text of a journal at the heads wasn't made another one: it wasn't opened, or so
abbrev pub IsNotUpdatedSince : JournalState → List Hash → Actor → List ℕ → ℕ → List ℕ → UpdateError → Type 0
IsNotUpdatedSince k H actor text time message e =
    ((e.place ≡ None) × RefusesJournalOpening k actor e.error) ⊎ ((p : PeerState) × (after : PeerState) × Reopens k actor p × IsNotRewrittenAt p H actor text time message after e)

abbrev pub IsNotUpdatedFrom : List Hash → JournalState → Actor → List ℕ → ℕ → List ℕ → UpdateError → Type 0
IsNotUpdatedFrom [] k actor text time message e = IsNotUpdated k actor text time message e
IsNotUpdatedFrom (h ∷ hs) k actor text time message e = IsNotUpdatedSince k (h ∷ hs) actor text time message e
