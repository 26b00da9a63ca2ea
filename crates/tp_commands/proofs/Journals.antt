-- What an edit and a merge of a peer leave in its journal.
use Rattle.std.proofs.Common.{◌≡◌, ◌∙◌, ap, ℕ, List, [], ◌∷◌, length, Option, Some, None, subst, sym, false}
use Rattle.tp_layout.specs.declared.parts.ChangeParts.{ChangeParts}
use Rattle.tp_change.specs.ChangeHash.{hash_of}
use Rattle.tp_document.specs.Editing.{AsksNothing, IsAcceptedEdit, asking}
use Rattle.tp_edit.specs.declared.splice.Splice.{Splice}
use Rattle.tp_recovery.specs.Recovery.{Recovers}
use Rattle.tp_recovery.proofs.CutLaws.{journal-push}
use Rattle.tp_opid.specs.declared.actor.Actor.{Actor}
use Rattle.tp_opid.specs.declared.hash.Hash.{Hash}
use Rattle.tp_peer.specs.Actors.{has_actor}
use Rattle.tp_peer.specs.Appending.{JournalState}
use Rattle.tp_peer.specs.Opening.{Reopens}
use Rattle.tp_peer.specs.PeerState.{PeerState, opened_peer}
use Rattle.tp_peer.specs.PeerStep.{Edit, Made, Merge, Merged, PeerStep, peer_with_change}
use Rattle.tp_peer.specs.Taking.{Report}
use Rattle.tp_commands.specs.Editing.{EditsJournal, TakesJournal}

-- an edit of a peer that was opened on the journal
pub edits_of : (k : JournalState) (actor : Actor) (p p' : PeerState) (splice : Splice) (time : ℕ) (message : List ℕ) (made : Option Hash) (after : List ℕ)
    → Reopens k actor p → PeerStep p (Edit (splice ∷ []) time message) (Made made) p' → after ≡ p'.journal
    → EditsJournal k.content actor splice time message made after
unfolding PeerStep
edits_of k actor p p' splice time message None after is step kept =
    let done : AsksNothing is.applied (asking actor (splice ∷ []) time message) × (p' ≡ opened_peer is.id actor is.applied k.device) =
    subst (λ (q : PeerState). PeerStep q (Edit (splice ∷ []) time message) (Made None) p') is.is step in
    record {
      id = is.id;
      changes = is.applied;
      keep = is.keep;
      recovers = is.recovers;
      free = is.free;
      makes = (done.0, kept ∙ ap (λ (q : PeerState). q.journal) done.1);
    }
edits_of k actor p p' splice time message (Some h) after is step kept =
    let done : (c : ChangeParts) × IsAcceptedEdit is.applied (asking actor (splice ∷ []) time message) c × (h ≡ hash_of c)
    × (p' ≡ peer_with_change (opened_peer is.id actor is.applied k.device) c) =
    subst (λ (q : PeerState). PeerStep q (Edit (splice ∷ []) time message) (Made (Some h)) p') is.is step in
    let c = done.0 in
    record {
      id = is.id;
      changes = is.applied;
      keep = is.keep;
      recovers = is.recovers;
      free = is.free;
      makes = (c, done.1, done.2, kept ∙ ap (λ (q : PeerState). q.journal) done.3 ∙ sym (journal-push is.id is.applied c));
    }

-- a merge from a peer that was opened on the other journal
pub takes_of : (k : JournalState) (other : List ℕ) (actor : Actor) (p q p' : PeerState) (report : Report) (count : ℕ) (after : List ℕ)
    → k.content ≡ other → Reopens k actor q → PeerStep p (Merge q) (Merged report) p' → count ≡ length report.applied → after ≡ p'.journal
    → TakesJournal p other actor count after
takes_of k other actor p q p' report count after same is step counted kept = record {
  source = q;
  result = p';
  report = report;
  keep = is.keep;
  recovers = subst (λ (s : PeerState). Recovers other s.id s.applied is.keep) (sym is.is)
      (subst (λ (bytes : List ℕ). Recovers bytes is.id is.applied is.keep) same is.recovers);
  free = subst (λ (s : PeerState). has_actor s.applied actor ≡ false) (sym is.is) is.free;
  step = step;
  counted = counted;
  journal_is = kept;
}
