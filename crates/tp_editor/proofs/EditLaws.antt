-- What a refused edit leaves.
use Rattle.std.proofs.Common.{◌≡◌, inl, inr, ℕ, List, ap}
use Rattle.tp_document.specs.Editing.{EditRequest, asking}
use Rattle.tp_edit.specs.declared.splice.Splice.{Splice}
use Rattle.tp_peer.proofs.StepLaws.{step_cases}
use Rattle.tp_peer.specs.PeerState.{PeerState}
use Rattle.tp_peer.specs.PeerStep.{Edit, PeerStep, Refused, RefusesEdit}
use Rattle.tp_peer.specs.declared.error.PeerError.{PeerError}
use Rattle.tp_peer.specs.declared.error.PeerError.TheVariants.{JournalFailed, Doc, OutOfMemory}

edit_stays : (p p' : PeerState) (asked : EditRequest) (e : PeerError) → RefusesEdit p asked e p' → p'.applied ≡ p.applied
edit_stays p p' asked (Doc e) s = ap (λ (q : PeerState). q.applied) s.2
edit_stays p p' asked OutOfMemory s = ap (λ (q : PeerState). q.applied) s
edit_stays p p' asked JournalFailed s = ap (λ (q : PeerState). q.applied) s.2.left
edit_stays p p' asked _ s = absurd s

-- a refused edit leaves the applied changes
pub refusal_stays : (p p' : PeerState) (ss : List Splice) (t : ℕ) (m : List ℕ) (e : PeerError) → PeerStep p (Edit ss t m) (Refused e) p' → p'.applied ≡ p.applied
refusal_stays p p' ss t m e s =
    elim (step_cases p (Edit ss t m) (Refused e) p' s) [
      | inl stopped ↦ ap (λ (q : PeerState). q.applied) stopped.1
      | inr runs ↦ edit_stays p p' (asking p.actor ss t m) e runs.1
    ]
