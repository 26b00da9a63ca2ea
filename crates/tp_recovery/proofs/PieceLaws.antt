-- Bytes that come in pieces: what is read of them stays so, whatever comes after.
use Rattle.std.proofs.Common.{◌≡◌, ℕ, ◌+◌, ◌-◌, ◌*◌, ◌^◌, ◌<◌, ◌≤◌, ◌⊎◌, inl, inr, List, [], ◌∷◌, ◌++◌, length, take, drop, refl, sym, ap, ◌∙◌, subst, append_assoc, append-nil, arith}
use Rattle.std.specs.Int.{w32, to_be_bytes}
use Rattle.std.proofs.lemmas.List.{length-append, length-drop, take-append-le, drop-append-le}
use Rattle.tp_opid.specs.declared.doc_id.DocId.{DocId}
use Rattle.tp_layout.specs.declared.parts.ChangeParts.{ChangeParts}
use Rattle.tp_layout.proofs.SpellingLaws.{spelling_bounds}
use Rattle.tp_layout.specs.Limits.{AllChanges}
use Rattle.tp_document.specs.DocState.{DocState}
use Rattle.tp_history.specs.declared.error.GraphError.{GraphError}
use Rattle.tp_store.specs.declared.error.StoreError.{StoreError}
use Rattle.tp_store.specs.declared.error.StoreError.TheVariants.{OutOfMemory}
use Rattle.tp_recovery.specs.declared.pieces.Stage.{Stage}
use Rattle.tp_recovery.specs.declared.pieces.Stage.TheVariants.{Records, Refused}
use Rattle.tp_recovery.specs.declared.recovering.Recovered.{Recovered}
use Rattle.tp_recovery.specs.Layout.{IsDocId, header_of, record_of, bytes_of_records, journal}
use Rattle.tp_recovery.specs.Pieces.{RefusesFrom, BeginsWithJournal, HasReadAll}
use Rattle.tp_recovery.specs.Recovery.{HasTail, IsHistory}
use Rattle.tp_recovery.specs.Refusals.{IsNoChange, IsWrong, IsDamaged, RefusesNext, IsFaultAt, IsJournalFault}
use Rattle.tp_recovery.proofs.CutLaws.{journal-push}
use Rattle.tp_recovery.proofs.RecordLaws.{length-record_of, length-header_of}

-- ---- how many bytes a journal can have

records_fit : (C : List ChangeParts) → AllChanges C → length (bytes_of_records C) ≤ length C * 4194340
records_fit [] limits = omega arith
records_fit (c ∷ C) limits =
    let parts = length-append (record_of c) (bytes_of_records C) in
    let own = length-record_of c in
    let bounds = spelling_bounds c (limits c (inl refl)) in
    let few = bounds.1 in
    let rest = records_fit C (λ d i. limits d (inr i)) in
    omega arith

-- a journal has fewer bytes than a number of 64 bits counts
pub journal_fits : (id : DocId) (C : List ChangeParts) → IsDocId id → IsHistory C → length (journal id C) < 2 ^ 63
journal_fits id C is h =
    let head = length-header_of id is in
    let parts = length-append (header_of id) (bytes_of_records C) in
    let fit = records_fit C h.limits in
    let few = h.few in
    omega arith

-- ---- faults stay, whatever comes after

no_change_stays : (n : ℕ) (rest more : List ℕ) → n + 32 ≤ length rest → IsNoChange (take n rest) (take 32 (drop n rest)) → IsNoChange (take n (rest ++ more)) (take 32 (drop n (rest ++ more)))
no_change_stays n rest more long none =
    let whole : n ≤ length rest = omega arith in
    let beyond : 32 ≤ length (drop n rest) = let cut = length-drop n rest in omega arith in
    let body : take n rest ≡ take n (rest ++ more) = sym (take-append-le n rest more whole) in
    let digest : take 32 (drop n rest) ≡ take 32 (drop n (rest ++ more)) =
    sym (take-append-le 32 (drop n rest) more beyond) ∙ ap (take 32) (sym (drop-append-le n rest more whole)) in
    subst (λ d. IsNoChange (take n (rest ++ more)) d) digest (subst (λ b. IsNoChange b (take 32 (drop n rest))) body none)

wrong_stays : (n : ℕ) (rest more : List ℕ) → IsWrong n rest → IsWrong n (rest ++ more)
wrong_stays n rest more (inl none) = inl none
wrong_stays n rest more (inr (inl past)) = inr (inl past)
wrong_stays n rest more (inr (inr whole)) =
    inr (inr (let parts = length-append rest more in let long = whole.0 in omega arith, no_change_stays n rest more whole.0 whole.1))

damaged_stays : (bytes more : List ℕ) → IsDamaged bytes → IsDamaged (bytes ++ more)
damaged_stays bytes more bad = record {
  size = bad.size;
  rest = bad.rest ++ more;
  fits = bad.fits;
  spelled = ap (λ l. l ++ more) bad.spelled ∙ append_assoc (to_be_bytes w32 bad.size) bad.rest more;
  wrong = wrong_stays bad.size bad.rest more bad.wrong;
}

next_stays : (C : List ChangeParts) (bytes more : List ℕ) (g : GraphError) → RefusesNext C bytes g → RefusesNext C (bytes ++ more) g
next_stays C bytes more g next = record {
  next = next.next;
  rest = next.rest ++ more;
  limits = next.limits;
  spelled = ap (λ l. l ++ more) next.spelled ∙ append_assoc (record_of next.next) next.rest more;
  unfit = next.unfit;
}

fault_stays : (C : List ChangeParts) (at : ℕ) (rest more : List ℕ) (e : StoreError) → IsFaultAt C at rest e → IsFaultAt C at (rest ++ more) e
fault_stays C at rest more e (inl bad) = inl (bad.0, damaged_stays rest more bad.1)
fault_stays C at rest more e (inr next) = inr (next.0, next.1, next_stays C rest more next.0 next.2)

-- a fault after what is read, or want of memory
pub after_refused : (came : List ℕ) (d : DocState) (keep : ℕ) (rest : List ℕ) (e : StoreError) → BeginsWithJournal came d keep rest → (e ≡ OutOfMemory) ⊎ IsFaultAt d.applied keep rest e → RefusesFrom came e
after_refused came d keep rest e b (inl memory) = inl memory
after_refused came d keep rest e b (inr fault) = inr (λ more. inr (record {
  id = d.id;
  good = d.applied;
  rest = rest ++ more;
  is_id = b.is_id;
  history = b.history;
  spelled = ap (λ l. l ++ more) b.spelled ∙ append_assoc (journal d.id d.applied) rest more;
  wrong = subst (λ at. IsFaultAt d.applied at (rest ++ more) e) b.keep_is (fault_stays d.applied keep rest more e fault);
}))

-- ---- what is read

-- one record more
pub record NextRecord (came : List ℕ) (d d' : DocState) (keep : ℕ) (rest next : List ℕ) : Type 0 where
  pub beyond : BeginsWithJournal came d' (keep + (length rest - length next)) next
  pub fits : keep + (length rest - length next) < 2 ^ 63
  pub shorter : length next ≤ length rest

pub after_next : (came : List ℕ) (d d' : DocState) (keep : ℕ) (rest next : List ℕ) (c : ChangeParts) → BeginsWithJournal came d keep rest → rest ≡ record_of c ++ next
    → d'.id ≡ d.id → d'.applied ≡ d.applied ++ c ∷ [] → d'.waiting ≡ d.waiting → IsHistory d'.applied → NextRecord came d d' keep rest next
after_next came d d' keep rest next c b e same_id more same_waiting h =
    let grown : journal d'.id d'.applied ≡ journal d.id d.applied ++ record_of c =
    ap (λ i. journal i d'.applied) same_id ∙ ap (journal d.id) more ∙ journal-push d.id d.applied c in
    let longer : length (journal d'.id d'.applied) ≡ length (journal d.id d.applied) + length (record_of c) = ap length grown ∙ length-append (journal d.id d.applied) (record_of c) in
    let parts : length rest ≡ length (record_of c) + length next = ap length e ∙ length-append (record_of c) next in
    let is : IsDocId d'.id = subst IsDocId (sym same_id) b.is_id in
    let fit = journal_fits d'.id d'.applied is h in
    let kept = b.keep_is in
    record {
      beyond = record {
        is_id = is;
        history = h;
        waiting = same_waiting ∙ b.waiting;
        spelled =
            b.spelled
            ∙ ap (λ l. journal d.id d.applied ++ l) e
            ∙ sym (append_assoc (journal d.id d.applied) (record_of c) next)
            ∙ ap (λ l. l ++ next) (sym grown);
        keep_is = omega arith;
      };
      fits = omega arith;
      shorter = omega arith;
    }

-- more bytes of what is read in part
pub read_more : (bytes read rest : List ℕ) (c : List ℕ) (next : List ℕ) → bytes ≡ read ++ rest → rest ≡ c ++ next → bytes ≡ (read ++ c) ++ next
read_more bytes read rest c next e f = e ∙ ap (λ l. read ++ l) f ∙ sym (append_assoc read c next)

-- ---- the end

pub refused_ends : (came : List ℕ) (e : StoreError) → RefusesFrom came e → (e ≡ OutOfMemory) ⊎ IsJournalFault came e
refused_ends came e (inl memory) = inl memory
refused_ends came e (inr refused) = inr (subst (λ l. IsJournalFault l e) (append-nil came) (refused []))

pub refused_end : {S : Type 0} (all came held : List ℕ) (stage : Stage S) (e : StoreError) → came ≡ all → stage ≡ Refused e → HasReadAll came stage held → (e ≡ OutOfMemory) ⊎ IsJournalFault all e
refused_end all came held stage e same is s =
    subst (λ l. (e ≡ OutOfMemory) ⊎ IsJournalFault l e) same (refused_ends came e (subst (λ t. HasReadAll came t held) is s))

-- what is held at the end comes after what is kept
pub held_end : {S : Type 0} (all came held : List ℕ) (stage : Stage S) (r : Recovered S) → came ≡ all → stage ≡ Records r → HasReadAll came stage held → HasTail all r.keep held
held_end all came held stage r same is s =
    let beyond = (subst (λ t. HasReadAll came t held) is s).0 in
    record { kept = journal r.document.id r.document.applied; split = sym same ∙ beyond.spelled; size = beyond.keep_is }
