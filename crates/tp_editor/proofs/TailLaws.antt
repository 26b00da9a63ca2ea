-- What would be cut off a journal.
use Rattle.std.proofs.Common.{◌≡◌, ◌⊎◌, inl, inr, ℕ, List, drop, refl, ◌∙◌, subst, sym}
use Rattle.std.proofs.lemmas.List.{drop_at}
use Rattle.tp_opid.specs.declared.actor.Actor.{Actor}
use Rattle.tp_opid.specs.declared.doc_id.DocId.{DocId}
use Rattle.tp_layout.specs.declared.parts.ChangeParts.{ChangeParts}
use Rattle.tp_recovery.specs.Recovery.{HasTail, Recovers}
use Rattle.tp_recovery.specs.Refusals.{IsFaultAt, IsHeaderFault, IsJournalFault}
use Rattle.tp_recovery.specs.Whole.{HoldsRecord}
use Rattle.tp_recovery.proofs.RecoveryLaws.{recovers_once}
use Rattle.tp_peer.specs.Appending.{JournalState}
use Rattle.tp_peer.specs.PeerError.{refusal_of_bytes}
use Rattle.tp_peer.specs.declared.error.PeerError.{PeerError}
use Rattle.tp_peer.specs.declared.error.PeerError.TheVariants.{OutOfMemory, Store}
use Rattle.tp_store.specs.declared.error.StoreError.{StoreError}
use Rattle.tp_store.specs.declared.error.StoreError.TheVariants.{Damaged, OutOfMemory as Lack}
use Rattle.tp_editor.specs.Opening.{CutsRecord, RefusesOpeningOn}

rest_of : (bytes : List ℕ) (keep : ℕ) (tail : List ℕ) → HasTail bytes keep tail → drop keep bytes ≡ tail
rest_of bytes keep tail h = subst (λ l. drop keep l ≡ tail) (sym h.split) (drop_at h.kept tail keep (sym h.size))

-- no record is cut off where the tail holds none
pub none_cut : (bytes : List ℕ) (id : DocId) (C : List ChangeParts) (keep : ℕ) (tail : List ℕ) → Recovers bytes id C keep → HasTail bytes keep tail → (HoldsRecord tail → ⊥)
    → CutsRecord bytes → ⊥
none_cut bytes id C keep tail r h none cut =
    let once = recovers_once bytes cut.id id cut.changes C cut.keep keep cut.recovers r in
    let same : cut.tail ≡ tail = sym (rest_of bytes cut.keep cut.tail cut.is_tail) ∙ subst (λ n. drop n bytes ≡ tail) (sym once.2) (rest_of bytes keep tail h) in
    none (subst HoldsRecord same cut.holds)

-- why a journal isn't opened whose tail was looked at
pub not_whole : (k : JournalState) (actor : Actor) (id : DocId) (C : List ChangeParts) (keep : ℕ) (tail : List ℕ) (e : PeerError) → Recovers k.content id C keep
    → HasTail k.content keep tail → (e ≡ OutOfMemory) ⊎ ((e ≡ Store (Damaged keep)) × HoldsRecord tail) → RefusesOpeningOn k actor e
not_whole k actor id C keep tail e r h (inl lack) = subst (RefusesOpeningOn k actor) (sym lack) (inl (k, refl))
not_whole k actor id C keep tail e r h (inr holds) =
    let cut : CutsRecord k.content = record { id = id; changes = C; keep = keep; tail = tail; recovers = r; is_tail = h; holds = holds.1 } in
    inr (cut, holds.0)

-- a refusal that a peer keeps as it is
kept_refusal : (k : JournalState) (actor : Actor) (f : StoreError) → refusal_of_bytes f ≡ Store f → IsJournalFault k.content f → RefusesOpeningOn k actor (refusal_of_bytes f)
kept_refusal k actor f same is = subst (RefusesOpeningOn k actor) (sym same) (inl (k, (is, refl)))

of_header : (bytes : List ℕ) (f : StoreError) → IsHeaderFault bytes f → refusal_of_bytes f ≡ Store f
of_header bytes f (inl magic) = subst (λ e. refusal_of_bytes e ≡ Store e) (sym magic.0) refl
of_header bytes f (inr none) = subst (λ e. refusal_of_bytes e ≡ Store e) (sym none.0) refl

of_record : (C : List ChangeParts) (at : ℕ) (rest : List ℕ) (f : StoreError) → IsFaultAt C at rest f → refusal_of_bytes f ≡ Store f
of_record C at rest f (inl damaged) = subst (λ e. refusal_of_bytes e ≡ Store e) (sym damaged.0) refl
of_record C at rest f (inr unfit) = subst (λ e. refusal_of_bytes e ≡ Store e) (sym unfit.1) refl

-- why a journal isn't opened that doesn't recover
pub not_recovered : (k : JournalState) (actor : Actor) (f : StoreError) → (f ≡ Lack) ⊎ IsJournalFault k.content f → RefusesOpeningOn k actor (refusal_of_bytes f)
not_recovered k actor f (inl lack) = subst (λ e. RefusesOpeningOn k actor (refusal_of_bytes e)) (sym lack) (inl (k, refl))
not_recovered k actor f (inr (inl header)) = kept_refusal k actor f (of_header k.content f header) (inl header)
not_recovered k actor f (inr (inr fault)) = kept_refusal k actor f (of_record _ _ _ f fault.wrong) (inr fault)
