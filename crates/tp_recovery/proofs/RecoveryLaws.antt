-- Bytes recover in one way, or are refused for one cause.
use Rattle.std.proofs.Common.{◌≡◌, ℕ, ◌≤◌, ◌⊎◌, inl, inr, List, [], ◌∷◌, ◌++◌, length, take, Some, None, refl, sym, ap, ◌∙◌, subst, append_assoc, append-nil, arith}
use Rattle.std.proofs.lemmas.List.{take_at, take_all, length-append}
use Rattle.tp_opid.specs.declared.doc_id.DocId.{DocId}
use Rattle.tp_layout.specs.declared.parts.ChangeParts.{ChangeParts}
use Rattle.tp_layout.specs.Limits.{IsChange}
use Rattle.tp_history.specs.declared.error.GraphError.{GraphError}
use Rattle.tp_history.specs.Fit.{cause}
use Rattle.tp_store.specs.declared.error.StoreError.{StoreError}
use Rattle.tp_store.specs.declared.error.StoreError.TheVariants.{Refused}
use Rattle.tp_recovery.specs.declared.layout.TheConstants.{MAGIC}
use Rattle.tp_recovery.specs.Layout.{IsDocId, header_of, record_of, bytes_of_records, journal, IsShortTail}
use Rattle.tp_recovery.specs.Recovery.{IsHistory, Recovers}
use Rattle.tp_recovery.specs.Refusals.{HasMagic, IsDamaged, RefusesNext, IsFaultAt, IsHeaderFault, IsJournalFault}
use Rattle.tp_recovery.proofs.RecordLaws.{same_record, short_no_record, damaged_no_record, damaged_not_short, length-header_of, same_header}
use Rattle.tp_recovery.proofs.HistoryLaws.{history_at, history_limits}

-- Recovery stops at these bytes, after the changes C: at a short tail, or at a fault.
abbrev pub Stops : List ChangeParts → List ℕ → Type 0
Stops C bytes = IsShortTail bytes ⊎ (IsDamaged bytes ⊎ ((g : GraphError) × RefusesNext C bytes g))

refused_no_record : (P : List ChangeParts) (d : ChangeParts) (x : List ℕ) (g : GraphError) → IsChange d → cause P d ≡ None → RefusesNext P (record_of d ++ x) g → ⊥
refused_no_record P d x g is fits next =
    let same = same_record next.next d next.rest x next.limits is (sym next.spelled) in
    let unfit : cause P d ≡ Some g = subst (λ c. cause P c ≡ Some g) same.0 next.unfit in
    cc

-- it doesn't stop at the record of a change that can enter
no_stop : (P : List ChangeParts) (d : ChangeParts) (D : List ChangeParts) (x : List ℕ) → IsHistory (P ++ d ∷ D) → Stops P (record_of d ++ x) → ⊥
no_stop P d D x h (inl short) = short_no_record d x (history_limits P d D h) short
no_stop P d D x h (inr (inl bad)) = damaged_no_record d x (history_limits P d D h) bad
no_stop P d D x h (inr (inr next)) = refused_no_record P d x next.0 (history_limits P d D h) (history_at P d D h) next.1

stop_after : (P C D : List ChangeParts) (x y : List ℕ) → IsHistory (P ++ C) → IsHistory (P ++ D) → Stops (P ++ C) x → Stops (P ++ D) y → bytes_of_records C ++ x ≡ bytes_of_records D ++ y → (C ≡ D) × (x ≡ y)
stop_after P [] [] x y h k s t e = (refl, e)
stop_after P [] (d ∷ D) x y h k s t e =
    absurd (no_stop P d D (bytes_of_records D ++ y) k
    (subst (Stops P) (e ∙ append_assoc (record_of d) (bytes_of_records D) y) (subst (λ l. Stops l x) (append-nil P) s)))
stop_after P (c ∷ C) [] x y h k s t e =
    absurd (no_stop P c C (bytes_of_records C ++ x) h
    (subst (Stops P) (sym e ∙ append_assoc (record_of c) (bytes_of_records C) x) (subst (λ l. Stops l y) (append-nil P) t)))
stop_after P (c ∷ C) (d ∷ D) x y h k s t e =
    let same = same_record c d (bytes_of_records C ++ x) (bytes_of_records D ++ y) (history_limits P c C h) (history_limits P d D k)
    (sym (append_assoc (record_of c) (bytes_of_records C) x) ∙ e ∙ append_assoc (record_of d) (bytes_of_records D) y) in
    let moved : P ++ c ∷ C ≡ (P ++ c ∷ []) ++ C = sym (append_assoc P (c ∷ []) C) in
    let also_moved : P ++ d ∷ D ≡ (P ++ c ∷ []) ++ D = ap (λ z. P ++ z ∷ D) (sym same.0) ∙ sym (append_assoc P (c ∷ []) D) in
    let rest = stop_after (P ++ c ∷ []) C D x y (subst IsHistory moved h) (subst IsHistory also_moved k) (subst (λ l. Stops l x) moved s) (subst (λ l. Stops l y) also_moved t) same.1 in
    (ap (λ z. z ∷ C) same.0 ∙ ap (λ l. d ∷ l) rest.0, rest.1)

-- where recovery stops is one place
one_stop : (id also : DocId) (C D : List ChangeParts) (x y : List ℕ) → IsDocId id → IsDocId also → IsHistory C → IsHistory D → Stops C x → Stops D y
    → journal id C ++ x ≡ journal also D ++ y → (id ≡ also) × ((C ≡ D) × (x ≡ y))
one_stop id also C D x y is js h k s t e =
    let headers = same_header id also (bytes_of_records C ++ x) (bytes_of_records D ++ y) is js
    (sym (append_assoc (header_of id) (bytes_of_records C) x) ∙ e ∙ append_assoc (header_of also) (bytes_of_records D) y) in
    (headers.0, stop_after [] C D x y h k s t headers.1)

same_journal : (id also : DocId) (C D : List ChangeParts) → id ≡ also → C ≡ D → journal id C ≡ journal also D
same_journal id also C D one two = ap (λ i. journal i C) one ∙ ap (journal also) two

-- bytes recover in one way
pub recovers_once : (bytes : List ℕ) (id also : DocId) (C D : List ChangeParts) (keep kept : ℕ) → Recovers bytes id C keep → Recovers bytes also D kept
    → (id ≡ also) × (C ≡ D) × (keep ≡ kept)
recovers_once bytes id also C D keep kept r s =
    let one = one_stop id also C D r.tail s.tail r.is_id s.is_id r.history s.history (inl r.short) (inl s.short) (sym r.spelled ∙ s.spelled) in
    (one.0, one.1.0, r.keep_is ∙ ap length (same_journal id also C D one.0 one.1.0) ∙ sym s.keep_is)

-- ---- faults

fault_stops : (C : List ChangeParts) (at : ℕ) (rest : List ℕ) (e : StoreError) → IsFaultAt C at rest e → Stops C rest
fault_stops C at rest e (inl bad) = inr (inl bad.1)
fault_stops C at rest e (inr next) = inr (inr (next.0, next.2))

one_unfit : (C : List ChangeParts) (rest : List ℕ) (g h : GraphError) → RefusesNext C rest g → RefusesNext C rest h → g ≡ h
one_unfit C rest g h v w =
    let same = same_record v.next w.next v.rest w.rest v.limits w.limits (sym v.spelled ∙ w.spelled) in
    let unfit : cause C w.next ≡ Some g = subst (λ c. cause C c ≡ Some g) same.0 v.unfit in
    let also = w.unfit in
    cc

damaged_not_refused : (C : List ChangeParts) (rest : List ℕ) (g : GraphError) → IsDamaged rest → RefusesNext C rest g → ⊥
damaged_not_refused C rest g bad next = damaged_no_record next.next next.rest next.limits (subst IsDamaged next.spelled bad)

-- what is there has one fault
one_fault : (C : List ChangeParts) (at : ℕ) (rest : List ℕ) (e f : StoreError) → IsFaultAt C at rest e → IsFaultAt C at rest f → e ≡ f
one_fault C at rest e f (inl v) (inl w) = v.0 ∙ sym w.0
one_fault C at rest e f (inl v) (inr w) = absurd (damaged_not_refused C rest w.0 v.1 w.2)
one_fault C at rest e f (inr v) (inl w) = absurd (damaged_not_refused C rest v.0 w.1 v.2)
one_fault C at rest e f (inr v) (inr w) = v.1 ∙ ap Refused (one_unfit C rest v.0 w.0 v.2 w.2) ∙ sym w.1

moved_fault : (C D : List ChangeParts) (a b : ℕ) (x y : List ℕ) (f : StoreError) → C ≡ D → a ≡ b → x ≡ y → IsFaultAt D b y f → IsFaultAt C a x f
moved_fault C D a b x y f p q r w =
    subst (λ l. IsFaultAt l a x f) (sym p) (subst (λ n. IsFaultAt D n x f) (sym q) (subst (λ l. IsFaultAt D b l f) (sym r) w))

-- bytes that begin with a header
header_there : (bytes : List ℕ) (id : DocId) (C : List ChangeParts) (x : List ℕ) → IsDocId id → bytes ≡ journal id C ++ x → HasMagic bytes × (24 ≤ length bytes)
header_there bytes id C x is e =
    let parts = length-append (header_of id) (bytes_of_records C ++ x) in
    let head = length-header_of id is in
    let whole : bytes ≡ header_of id ++ (bytes_of_records C ++ x) = e ∙ append_assoc (header_of id) (bytes_of_records C) x in
    let size : length bytes ≡ length (header_of id ++ (bytes_of_records C ++ x)) = ap length whole in
    let long : 24 ≤ length bytes = omega arith in
    let prefix : take 8 bytes ≡ MAGIC = ap (take 8) (whole ∙ append_assoc MAGIC id.0 (bytes_of_records C ++ x)) ∙ take_at MAGIC (id.0 ++ (bytes_of_records C ++ x)) 8 refl in
    (prefix ∙ sym (take_all (length bytes) MAGIC (let few : length MAGIC ≤ length bytes = omega arith in few)), long)

header_not_there : (bytes : List ℕ) (e : StoreError) → IsHeaderFault bytes e → HasMagic bytes × (24 ≤ length bytes) → ⊥
header_not_there bytes e (inl bad) there = bad.1 there.0
header_not_there bytes e (inr short) there = let few = short.2 in let long = there.1 in omega arith

-- bytes that recover aren't refused
pub recovers_or_refused : (bytes : List ℕ) (id : DocId) (C : List ChangeParts) (keep : ℕ) (e : StoreError) → Recovers bytes id C keep → IsJournalFault bytes e → ⊥
recovers_or_refused bytes id C keep e r (inl bad) = header_not_there bytes e bad (header_there bytes id C r.tail r.is_id r.spelled)
recovers_or_refused bytes id C keep e r (inr f) =
    let one = one_stop id f.id C f.good r.tail f.rest r.is_id f.is_id r.history f.history (inl r.short) (fault_stops f.good (length (journal f.id f.good)) f.rest e f.wrong) (sym r.spelled ∙ f.spelled) in
    short_no_fault f.good (length (journal f.id f.good)) f.rest e (subst IsShortTail one.1.1 r.short) f.wrong
  where
    short_no_fault : (D : List ChangeParts) (at : ℕ) (rest : List ℕ) (e : StoreError) → IsShortTail rest → IsFaultAt D at rest e → ⊥
    short_no_fault D at rest e short (inl bad) = damaged_not_short rest bad.1 short
    short_no_fault D at rest e short (inr next) = short_no_record next.2.next next.2.rest next.2.limits (subst IsShortTail next.2.spelled short)

one_header_fault : (bytes : List ℕ) (e f : StoreError) → IsHeaderFault bytes e → IsHeaderFault bytes f → e ≡ f
one_header_fault bytes e f (inl v) (inl w) = v.0 ∙ sym w.0
one_header_fault bytes e f (inl v) (inr w) = absurd (v.1 w.1)
one_header_fault bytes e f (inr v) (inl w) = absurd (w.1 v.1)
one_header_fault bytes e f (inr v) (inr w) = v.0 ∙ sym w.0

-- bytes are refused for one cause
pub refused_once : (bytes : List ℕ) (e f : StoreError) → IsJournalFault bytes e → IsJournalFault bytes f → e ≡ f
refused_once bytes e f (inl v) (inl w) = one_header_fault bytes e f v w
refused_once bytes e f (inl v) (inr w) = absurd (header_not_there bytes e v (header_there bytes w.id w.good w.rest w.is_id w.spelled))
refused_once bytes e f (inr v) (inl w) = absurd (header_not_there bytes f w (header_there bytes v.id v.good v.rest v.is_id v.spelled))
refused_once bytes e f (inr v) (inr w) =
    let at = length (journal v.id v.good) in
    let there = length (journal w.id w.good) in
    let one = one_stop v.id w.id v.good w.good v.rest w.rest v.is_id w.is_id v.history w.history (fault_stops v.good at v.rest e v.wrong) (fault_stops w.good there w.rest f w.wrong) (sym v.spelled ∙ w.spelled) in
    one_fault v.good at v.rest e f v.wrong
    (moved_fault v.good w.good at there v.rest w.rest f one.1.0 (ap length (same_journal v.id w.id v.good w.good one.0 one.1.0)) one.1.1 w.wrong)
