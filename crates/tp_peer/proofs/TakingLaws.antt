-- From what a document answers where it receives to what that does to its peer.
use Rattle.tp_peer.proofs.Common.{never, ◌≡◌, ℕ, List, Bool, false, Err, refl, ap, ◌∙◌, Actor, DocId, ChangeParts, is_full, Receiver, Outcome, ReceivesWith, Stopped, DocError, HasMergeOutcome, kept_by, DocState, absent, Device, SyncParts, AppendsRecord, JournalState, RefusesRecord, PeerState, peer_state, is_failed, refusal_of_document, RefusesMerge, ReceivesAndAppends, stopped_by}
use Rattle.tp_receive.specs.declared.error.ReceiveError.TheVariants as receive
use Rattle.tp_document.specs.declared.error.DocError.TheVariants as doc

-- a peer from all its parts
abbrev from_parts : DocId → Actor → List ChangeParts → List ChangeParts → List (ℕ × SyncParts) → List ℕ → Device → Bool → PeerState
from_parts i a C W L b n s = record { id = i; actor = a; applied = C; waiting = W; links = L; journal = b; device = n; stopped = s }

-- what a document received is what its peer received
pub took : (a : Actor) (d d' : DocState) (L : List (ℕ × SyncParts)) (k k' : JournalState) (s : Bool) (K : List ChangeParts) (o : Outcome) → d'.id ≡ d.id → ReceivesWith AppendsRecord RefusesRecord (kept_by k d) K (kept_by k' d') o
    → ReceivesAndAppends (peer_state a d L k s) K o (peer_state a d' L k' (stopped_by o s))
took a d d' L k k' s K o e receives = record {
  receives = receives;
  left = ap (λ (i : DocId). from_parts i a d'.applied d'.waiting L k'.content k'.device (stopped_by o s)) e;
}

-- what left a document and its journal as they were left the peer so
pub took_none : (a : Actor) (d d' : DocState) (L : List (ℕ × SyncParts)) (k k' : JournalState) (s : Bool) → d'.id ≡ d.id → kept_by k' d' ≡ kept_by k d → peer_state a d' L k' s ≡ peer_state a d L k s
took_none a d d' L k k' s e same =
    ap (λ (i : DocId). from_parts i a d'.applied d'.waiting L k'.content k'.device s) e
    ∙ ap (λ (r : Receiver JournalState). from_parts d.id a r.applied r.waiting L r.keeper.content r.keeper.device s) same

-- ---- a merge that was refused

-- the refusal as the peer's, which has stopped where it is the keeper's
pub merge_refused : (a : Actor) (d d' : DocState) (L : List (ℕ × SyncParts)) (k k' : JournalState) (q : PeerState) (e : DocError) → d'.id ≡ d.id → is_full d.applied d.waiting (absent d.applied q.applied) ≡ false
    → HasMergeOutcome d.id q.id (kept_by k d) (kept_by k' d') (Err e) (ReceivesWith AppendsRecord RefusesRecord (kept_by k d) (absent d.applied q.applied) (kept_by k' d'))
    → RefusesMerge (peer_state a d L k false) q (refusal_of_document e) (peer_state a d' L k' (is_failed (refusal_of_document e)))
merge_refused a d d' L k k' q doc.OtherDocument same space h = ((refl, h.0), took_none a d d' L k k' false same h.1)
merge_refused a d d' L k k' q doc.NotKept same space h = (h.0, took a d d' L k k' false (absent d.applied q.applied) (Stopped receive.NotKept) same h.1)
merge_refused a d d' L k k' q doc.OutOfMemory same space h = (h.0, took a d d' L k k' false (absent d.applied q.applied) (Stopped receive.OutOfMemory) same h.1)
merge_refused a d d' L k k' q doc.PendingFull same space h = never h.1.0 space
merge_refused a d d' L k k' q doc.OutOfRange same space h = absurd h.1
merge_refused a d d' L k k' q doc.CounterLimit same space h = absurd h.1
merge_refused a d d' L k k' q doc.TooManyOps same space h = absurd h.1
merge_refused a d d' L k k' q doc.TooManyHeads same space h = absurd h.1
merge_refused a d d' L k k' q doc.UnknownHead same space h = absurd h.1
merge_refused a d d' L k k' q doc.UnknownElement same space h = absurd h.1
merge_refused a d d' L k k' q doc.HashTaken same space h = absurd h.1
merge_refused a d d' L k k' q doc.TooLong same space h = absurd h.1
merge_refused a d d' L k k' q doc.Full same space h = absurd h.1
