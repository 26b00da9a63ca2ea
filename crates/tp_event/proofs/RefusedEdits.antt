-- A refused edit makes no change.
use Rattle.tp_event.proofs.Common.{◌≡◌, ℕ, ◌+◌, ◌<◌, ◌≤◌, false, List, [], ◌∷◌, ◌++◌, length, refl, sym, ap, ◌∙◌, subst, arith, encode_utf8_all, length-append, length-map, Actor, ChangeParts, hash_of, has, IsHistory, PeerState, Edit, IsRunningEdit}
use Rattle.tp_opid.specs.declared.hash.Hash.{Hash}
use Rattle.tp_opid.specs.Insert.{Insert}
use Rattle.tp_change.specs.Elements.{deletes, next_counter}
use Rattle.tp_layout.specs.Spelling.{spelling}
use Rattle.tp_rga.specs.Shown.{visible_of}
use Rattle.tp_history.specs.Sound.{Sound}
use Rattle.tp_layout.specs.Counts as operations
use Rattle.tp_history.specs.Fit.{most_changes}
use Rattle.tp_history.proofs.CauseLaws.{Fits-from_cause}
use Rattle.tp_edit.specs.Splices.{AllInRange, total_count}
use Rattle.tp_edit.specs.EditRecords.{visible_ids}
use Rattle.tp_edit.proofs.RecordLimits.{count_of-records_of}
use Rattle.tp_document.specs.declared.error.DocError.{DocError}
use Rattle.tp_document.specs.declared.error.DocError.TheVariants.{OutOfRange, CounterLimit, TooManyOps, TooManyHeads, UnknownHead, UnknownElement, PendingFull, HashTaken, OutOfMemory, OtherDocument, TooLong, Full, NotKept}
use Rattle.tp_document.specs.Editing.{EditRequest, IsAcceptedEdit, PassesEdit, RefusesMaking, asking}
use Rattle.tp_document.proofs.EditFits.{range_of, edit_determined}
use Rattle.tp_snapshot.proofs.ShowingLaws.{one_text}
use Rattle.tp_edit.specs.declared.splice.Splice.{Splice}
use Rattle.tp_recovery.proofs.HistoryLaws.{history_push}

-- ---- each refusal

-- the change of an edit has as many operations as the edit asks for
counts : (C : List ChangeParts) (asked : EditRequest) (c : ChangeParts) → Sound C → IsAcceptedEdit C asked c → operations.count_of c.records ≡ total_count asked.splices
counts C asked c s x =
    let e = x.edit in
    let V = visible_ids (deletes C) e.elements in
    let range : AllInRange (length V) asked.splices =
    subst (λ k. AllInRange k asked.splices) (sym (length-map (visible_of (deletes C) e.elements) (λ (y : Insert). y.id))) (range_of C e.elements asked.splices s e.order x.range) in
    ap operations.count_of e.records ∙ count_of-records_of asked.actor (next_counter C) V asked.splices range

within : (first more limit n k : ℕ) → n + k ≤ limit → n ≡ first → k ≡ more → first + more ≤ limit
within first more limit n k few same also = omega arith

room : (C : List ChangeParts) (c : ChangeParts) → IsHistory (C ++ c ∷ []) → length C < most_changes
room C c more = let few = more.few in let e = length-append C (c ∷ []) in omega arith

-- An edit that makes a change passes each test.
passes : (C : List ChangeParts) (asked : EditRequest) (c : ChangeParts) (e : DocError) → IsHistory C → IsAcceptedEdit C asked c → PassesEdit C asked e
passes C asked c OutOfRange h x = x.range
passes C asked c TooManyOps h x = subst (λ n. n ≤ 65536) (counts C asked c h.sound x) x.limits.operations
passes C asked c TooManyHeads h x = subst (λ (H : List Hash). length H ≤ 65535) x.edit.deps x.limits.deps_count
passes C asked c CounterLimit h x =
    within (next_counter C) (total_count asked.splices) 281474976710656 c.start (operations.count_of c.records) x.limits.counters x.edit.start (counts C asked c h.sound x)
passes C asked c TooLong h x = (
  subst (λ (m : List ℕ). length (encode_utf8_all m) ≤ 65535) x.edit.message x.limits.message.bytes,
  λ d is. subst (λ (y : ChangeParts). length (spelling y) ≤ 4194304) (edit_determined C asked c d h.sound x.edit is) x.limits.size,
)
passes C asked c Full h x = room C c (history_push C c h x.limits x.enters)
passes C asked c HashTaken h x =
    λ d is. subst (λ (y : ChangeParts). has C (hash_of y) ≡ false) (edit_determined C asked c d h.sound x.edit is) (Fits-from_cause C c x.enters).new
passes C asked c UnknownHead h x = tt
passes C asked c UnknownElement h x = tt
passes C asked c PendingFull h x = tt
passes C asked c OutOfMemory h x = tt
passes C asked c OtherDocument h x = tt
passes C asked c NotKept h x = tt

-- An edit that makes a change isn't refused, but for want of memory.
pub not_refused : (C : List ChangeParts) (asked : EditRequest) (c : ChangeParts) (e : DocError) → IsHistory C → IsAcceptedEdit C asked c → (e ≡ OutOfMemory → ⊥) → RefusesMaking C asked e → ⊥
not_refused C asked c OutOfMemory h x other r = other refl
not_refused C asked c OutOfRange h x other r = r.1.fails (passes C asked c OutOfRange h x)
not_refused C asked c TooManyOps h x other r = r.1.fails (passes C asked c TooManyOps h x)
not_refused C asked c TooManyHeads h x other r = r.1.fails (passes C asked c TooManyHeads h x)
not_refused C asked c CounterLimit h x other r = r.1.fails (passes C asked c CounterLimit h x)
not_refused C asked c TooLong h x other r = r.1.fails (passes C asked c TooLong h x)
not_refused C asked c Full h x other r = r.1.fails (passes C asked c Full h x)
not_refused C asked c HashTaken h x other r = r.1.fails (passes C asked c HashTaken h x)
not_refused C asked c UnknownHead h x other r = r.1.fails (passes C asked c UnknownHead h x)
not_refused C asked c UnknownElement h x other r = r.1.fails (passes C asked c UnknownElement h x)
not_refused C asked c PendingFull h x other r = r.1.fails (passes C asked c PendingFull h x)
not_refused C asked c OtherDocument h x other r = r.1.fails (passes C asked c OtherDocument h x)
not_refused C asked c NotKept h x other r = r.1.fails (passes C asked c NotKept h x)

-- A refused edit of a peer makes no change.
pub no_edit : (p : PeerState) (C : List ChangeParts) (a : Actor) (ss : List Splice) (time : ℕ) (message : List ℕ) (e : DocError) → C ≡ p.applied → a ≡ p.actor → IsHistory p.applied → (e ≡ OutOfMemory → ⊥)
    → RefusesMaking C (asking a ss time message) e → (c : ChangeParts) → IsRunningEdit p (Edit ss time message) c → ⊥
no_edit p C a ss time message e same who history other refused c edit =
    let here : RefusesMaking p.applied (asking p.actor ss time message) e =
    subst (λ (D : List ChangeParts). RefusesMaking D (asking p.actor ss time message) e) same (subst (λ (b : Actor). RefusesMaking C (asking b ss time message) e) who refused) in
    not_refused p.applied (asking p.actor ss time message) c e history edit.edited other here
