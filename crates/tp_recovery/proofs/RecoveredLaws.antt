-- The function that says what bytes recover to gives just that.
use Rattle.std.proofs.Common.{◌≡◌, ℕ, zero, suc, ◌+◌, ◌^◌, ◌<◌, ◌≤◌, inl, inr, List, [], ◌∷◌, ◌++◌, length, take, drop, Bool, true, false, cond, ltb, leb, ◌&&◌, Option, Some, None, Result, Ok, Err, refl, sym, ap, ◌∙◌, subst, append_assoc, append-nil, arith}
use Rattle.std.specs.Prelude.{nat_eq}
use Rattle.std.specs.Int.{w32, from_be_bytes, to_be_bytes}
use Rattle.std.specs.List.{starts_with}
use Rattle.std.proofs.lemmas.Bool.{cases_Bool, cases_lt, lt-ltb, le-ltb, le-leb, ltb-true, leb-true, and_parts, and_from, and_right, or_cases, or_from, or_left, or_right}
use Rattle.std.proofs.lemmas.List.{take_at, drop_at, drop-drop, take-append-drop, length-append, length-take, length-drop}
use Rattle.std.proofs.lemmas.Nat.{from_be_bytes-to_be_bytes_4, be_bytes_4}
use Rattle.std.proofs.lemmas.Slice.Eq.{bytes_eq-Decides}
use Rattle.tp_codec.proofs.Fields.{AreBytes, AreBytes-take, AreBytes-rest}
use Rattle.tp_opid.specs.declared.doc_id.DocId.{DocId}
use Rattle.tp_layout.specs.declared.error.ChangeError.{ChangeError}
use Rattle.tp_layout.specs.declared.parts.ChangeParts.{ChangeParts}
use Rattle.tp_change.specs.ChangeHash.{hash_of}
use Rattle.tp_layout.specs.Limits.{IsChange}
use Rattle.tp_layout.specs.Reading.{change_at}
use Rattle.tp_layout.specs.Spelling.{spelling}
use Rattle.tp_layout.proofs.WholeChange.{change_takes, change_again}
use Rattle.tp_history.specs.declared.error.GraphError.{GraphError}
use Rattle.tp_history.specs.Fit.{cause}
use Rattle.tp_recovery.specs.declared.layout.TheConstants.{MAGIC}
use Rattle.tp_recovery.specs.Layout.{IsDocId, header_of, record_of, bytes_of_records, journal, IsCutRecord, IsShortTail}
use Rattle.tp_recovery.specs.Recovery.{IsHistory, Recovers, is_cut_record, is_short_tail, with_record, journal_record_at, entered_fitting, entered_next, entered_from, with_keep, id_after_magic, recovery_of}
use Rattle.tp_recovery.proofs.RecordLaws.{record_spelled, size_fits, digest_len, length-record_of, length-header_of}
use Rattle.tp_recovery.proofs.HistoryLaws.{history_none, history_push, history_at, history_limits}

-- ---- what begins with a list

starts : (p x : List ℕ) → starts_with nat_eq (p ++ x) p ≡ true
starts p x = (bytes_eq-Decides p (take (length p) (p ++ x))).1 (sym (take_at p x (length p) refl))

begun : (b p : List ℕ) → starts_with nat_eq b p ≡ true → b ≡ p ++ drop (length p) b
begun b p t =
    sym (take-append-drop (length p) b) ∙ ap (λ l. l ++ drop (length p) b) (sym ((bytes_eq-Decides p (take (length p) b)).0 t))

-- ---- the number at the start

number_of : (n : ℕ) (x : List ℕ) → n < 2 ^ 32 → from_be_bytes w32 (take 4 (to_be_bytes w32 n ++ x)) ≡ n
number_of n x lt = ap (from_be_bytes w32) (take_at (to_be_bytes w32 n) x 4 refl) ∙ from_be_bytes-to_be_bytes_4 n lt

after_number : (n : ℕ) (x : List ℕ) → drop 4 (to_be_bytes w32 n ++ x) ≡ x
after_number n x = drop_at (to_be_bytes w32 n) x 4 refl

-- ---- short tails

cut_test : (n : ℕ) (rest : List ℕ) → 1 ≤ n → n ≤ 4194304 → length rest < n + 32 → is_cut_record n rest ≡ true
cut_test n rest some few short =
    and_from (leb 1 n && leb n 4194304) (ltb (length rest) (n + 32)) (and_from (leb 1 n) (leb n 4194304) (le-leb 1 n some) (le-leb n 4194304 few)) (lt-ltb (length rest) (n + 32) short)

short_test : (bytes : List ℕ) → IsShortTail bytes → is_short_tail bytes ≡ true
short_test bytes (inl few) = or_left (ltb (length bytes) 4) (is_cut_record (from_be_bytes w32 (take 4 bytes)) (drop 4 bytes)) (lt-ltb (length bytes) 4 few)
short_test bytes (inr cut) =
    let few = cut.few in
    let number : from_be_bytes w32 (take 4 bytes) ≡ cut.size = ap (λ l. from_be_bytes w32 (take 4 l)) cut.spelled ∙ number_of cut.size cut.rest (omega arith) in
    let rest : drop 4 bytes ≡ cut.rest = ap (drop 4) cut.spelled ∙ after_number cut.size cut.rest in
    or_right (ltb (length bytes) 4) (is_cut_record (from_be_bytes w32 (take 4 bytes)) (drop 4 bytes))
    (ap (λ n. is_cut_record n (drop 4 bytes)) number ∙ ap (is_cut_record cut.size) rest ∙ cut_test cut.size cut.rest cut.some cut.few cut.short)

tested_cut : (bytes : List ℕ) → AreBytes bytes → 4 ≤ length bytes → is_cut_record (from_be_bytes w32 (take 4 bytes)) (drop 4 bytes) ≡ true → IsCutRecord bytes
tested_cut bytes fits long t =
    let n = from_be_bytes w32 (take 4 bytes) in
    let rest = drop 4 bytes in
    let outer = and_parts (leb 1 n && leb n 4194304) (ltb (length rest) (n + 32)) t in
    let inner = and_parts (leb 1 n) (leb n 4194304) outer.0 in
    let four : length (take 4 bytes) ≡ 4 = let cut = length-take 4 bytes in omega arith in
    record {
      size = n;
      rest = rest;
      some = leb-true 1 n inner.0;
      few = leb-true n 4194304 inner.1;
      spelled = sym (take-append-drop 4 bytes) ∙ ap (λ l. l ++ rest) (sym (be_bytes_4 (take 4 bytes) n four (AreBytes-take 4 bytes fits) refl));
      short = ltb-true (length rest) (n + 32) outer.1;
    }

tested_short : (bytes : List ℕ) → AreBytes bytes → is_short_tail bytes ≡ true → IsShortTail bytes
tested_short bytes fits t =
    elim (cases_lt (length bytes) 4) [
      | inl few ↦ inl few
      | inr long ↦ elim (or_cases (ltb (length bytes) 4) (is_cut_record (from_be_bytes w32 (take 4 bytes)) (drop 4 bytes)) t) [
        | inl few ↦ inl (ltb-true (length bytes) 4 few)
        | inr cut ↦ inr (tested_cut bytes fits long cut)
      ]
    ]

-- ---- records

record_number : (c : ChangeParts) (x : List ℕ) → IsChange c → from_be_bytes w32 (take 4 (record_of c ++ x)) ≡ length (spelling c)
record_number c x is =
    ap (λ l. from_be_bytes w32 (take 4 l)) (record_spelled c x) ∙ number_of (length (spelling c)) (spelling c ++ ((hash_of c).0 ++ x)) (size_fits c is)

record_after : (c : ChangeParts) (x : List ℕ) → drop 4 (record_of c ++ x) ≡ spelling c ++ ((hash_of c).0 ++ x)
record_after c x = ap (drop 4) (record_spelled c x) ∙ after_number (length (spelling c)) (spelling c ++ ((hash_of c).0 ++ x))

record_not_short : (c : ChangeParts) (x : List ℕ) → IsChange c → is_short_tail (record_of c ++ x) ≡ false
record_not_short c x is =
    let bytes = record_of c ++ x in
    let n = from_be_bytes w32 (take 4 bytes) in
    let rest = drop 4 bytes in
    let number : n ≡ length (spelling c) = record_number c x is in
    let size : length rest ≡ length (spelling c ++ ((hash_of c).0 ++ x)) = ap length (record_after c x) in
    let outer = length-append (spelling c) ((hash_of c).0 ++ x) in
    let inner = length-append (hash_of c).0 x in
    let digest = digest_len c in
    let parts = length-append (record_of c) x in
    let own = length-record_of c in
    or_from (ltb (length bytes) 4) (is_cut_record n rest)
    (le-ltb (length bytes) 4 (omega arith))
    (and_right (leb 1 n && leb n 4194304) (ltb (length rest) (n + 32)) (le-ltb (length rest) (n + 32) (omega arith)))

record_again : (c : ChangeParts) (x : List ℕ) → IsChange c → journal_record_at (record_of c ++ x) ≡ Some (c, x)
unfolding journal_record_at
record_again c x is =
    let bytes = record_of c ++ x in
    let n = length (spelling c) in
    let rest = spelling c ++ ((hash_of c).0 ++ x) in
    let body : take (from_be_bytes w32 (take 4 bytes)) (drop 4 bytes) ≡ spelling c =
    ap (λ m. take m (drop 4 bytes)) (record_number c x is) ∙ ap (take n) (record_after c x) ∙ take_at (spelling c) ((hash_of c).0 ++ x) n refl in
    let read : change_at (take (from_be_bytes w32 (take 4 bytes)) (drop 4 bytes)) ≡ Ok c = ap change_at body ∙ change_again c is in
    let left : Option (ChangeParts × List ℕ) = Some (c, drop (length (record_of c)) bytes) in
    ap (with_record bytes) read
    ∙ ap (λ t. cond t left None) (starts (record_of c) x)
    ∙ ap (λ (l : List ℕ). let r : Option (ChangeParts × List ℕ) = Some (c, l) in r) (drop_at (record_of c) x (length (record_of c)) refl)

kept : {X : Type 0} (test : Bool) (x y : X) → cond test (Some x) None ≡ Some y → (test ≡ true) × (x ≡ y)
kept true x y e = (refl, cc)
kept false x y e = absurd cc

parts_of_pair : (c d : ChangeParts) (x y : List ℕ) → (let p : ChangeParts × List ℕ = (c, x) in p) ≡ (d, y) → (c ≡ d) × (x ≡ y)
parts_of_pair c d x y e = (ap (λ (p : ChangeParts × List ℕ). p.0) e, ap (λ (p : ChangeParts × List ℕ). p.1) e)

candidate_takes : (bytes body : List ℕ) (r : Result ChangeParts ChangeError) (c : ChangeParts) (rest : List ℕ) → AreBytes body → change_at body ≡ r → with_record bytes r ≡ Some (c, rest)
    → IsChange c × (bytes ≡ record_of c ++ rest)
candidate_takes bytes body (Err f) c rest fits is e = absurd cc
candidate_takes bytes body (Ok d) c rest fits is e =
    let found = kept (starts_with nat_eq bytes (record_of d)) (d, drop (length (record_of d)) bytes) (c, rest) e in
    let same = parts_of_pair d c (drop (length (record_of d)) bytes) rest found.1 in (
      subst IsChange same.0 (change_takes body d fits is).0,
      begun bytes (record_of d) found.0 ∙ ap (λ l. record_of d ++ l) same.1 ∙ ap (λ x. record_of x ++ rest) same.0,
    )

record_takes : (bytes : List ℕ) (c : ChangeParts) (rest : List ℕ) → AreBytes bytes → journal_record_at bytes ≡ Some (c, rest) → IsChange c × (bytes ≡ record_of c ++ rest)
unfolding journal_record_at
record_takes bytes c rest fits e =
    let beyond : AreBytes (drop 4 bytes) = AreBytes-rest (take 4 bytes) bytes (drop 4 bytes) (sym (take-append-drop 4 bytes)) fits in
    let n = from_be_bytes w32 (take 4 bytes) in
    candidate_takes bytes (take n (drop 4 bytes)) (change_at (take n (drop 4 bytes))) c rest (AreBytes-take n (drop 4 bytes) beyond) refl e

-- ---- records one after another

entered_again : (n : ℕ) (P C : List ChangeParts) (t : List ℕ) → IsHistory (P ++ C) → IsShortTail t → length C < n → entered_from n P (bytes_of_records C ++ t) ≡ Some (P ++ C)
unfolding entered_from
entered_again zero P C t h s lt = absurd (omega arith)
entered_again (suc n) P [] t h s lt =
    ap (λ b. cond b (Some P) (entered_next (λ D rest. entered_from n D rest) P (journal_record_at t))) (short_test t s) ∙ ap Some (sym (append-nil P))
entered_again (suc n) P (c ∷ C) t h s lt =
    let rest = bytes_of_records C ++ t in
    let is = history_limits P c C h in
    let next : List ChangeParts → List ℕ → Option (List ChangeParts) = λ D rest. entered_from n D rest in
    let moved : P ++ c ∷ C ≡ (P ++ c ∷ []) ++ C = sym (append_assoc P (c ∷ []) C) in
    ap (λ b. cond (is_short_tail b) (Some P) (entered_next next P (journal_record_at b))) (append_assoc (record_of c) (bytes_of_records C) t)
    ∙ ap (λ b. cond b (Some P) (entered_next next P (journal_record_at (record_of c ++ rest)))) (record_not_short c rest is)
    ∙ ap (entered_next next P) (record_again c rest is)
    ∙ ap (entered_fitting next P c rest) (history_at P c C h)
    ∙ entered_again n (P ++ c ∷ []) C t (subst IsHistory moved h) s (omega arith)
    ∙ ap Some (sym moved)

-- What was entered after P: changes whose records are there, up to a short tail.
record IsEntered (P : List ChangeParts) (bytes : List ℕ) (E : List ChangeParts) : Type 0 where
  new : List ChangeParts
  tail : List ℕ
  all : E ≡ P ++ new
  history : IsHistory E
  short : IsShortTail tail
  spelled : bytes ≡ bytes_of_records new ++ tail

entered_none : (P E : List ChangeParts) (bytes : List ℕ) → IsHistory P → IsShortTail bytes → (let o : Option (List ChangeParts) = Some P in o) ≡ Some E → IsEntered P bytes E
entered_none P E bytes h s e =
    let same : P ≡ E = cc in
    record { new = []; tail = bytes; all = sym same ∙ sym (append-nil P); history = subst IsHistory same h; short = s; spelled = refl }

entered_one : (P E : List ChangeParts) (c : ChangeParts) (bytes rest : List ℕ) → bytes ≡ record_of c ++ rest → IsEntered (P ++ c ∷ []) rest E → IsEntered P bytes E
entered_one P E c bytes rest e more = record {
  new = c ∷ more.new;
  tail = more.tail;
  all = more.all ∙ append_assoc P (c ∷ []) more.new;
  history = more.history;
  short = more.short;
  spelled = e ∙ ap (λ l. record_of c ++ l) more.spelled ∙ sym (append_assoc (record_of c) (bytes_of_records more.new) more.tail);
}

fitting_takes : (next : List ChangeParts → List ℕ → Option (List ChangeParts)) (P E : List ChangeParts) (c : ChangeParts) (bytes rest : List ℕ) (o : Option GraphError)
    → ((Q : List ChangeParts) (b : List ℕ) → AreBytes b → IsHistory Q → next Q b ≡ Some E → IsEntered Q b E)
    → AreBytes bytes → IsHistory P → IsChange c → bytes ≡ record_of c ++ rest → cause P c ≡ o → entered_fitting next P c rest o ≡ Some E → IsEntered P bytes E
fitting_takes next P E c bytes rest (Some g) takes fits h is e why r = absurd cc
fitting_takes next P E c bytes rest None takes fits h is e why r =
    entered_one P E c bytes rest e (takes (P ++ c ∷ []) rest (AreBytes-rest (record_of c) bytes rest e fits) (history_push P c h is why) r)

next_takes : (next : List ChangeParts → List ℕ → Option (List ChangeParts)) (P E : List ChangeParts) (bytes : List ℕ) (o : Option (ChangeParts × List ℕ))
    → ((Q : List ChangeParts) (b : List ℕ) → AreBytes b → IsHistory Q → next Q b ≡ Some E → IsEntered Q b E)
    → AreBytes bytes → IsHistory P → journal_record_at bytes ≡ o → entered_next next P o ≡ Some E → IsEntered P bytes E
next_takes next P E bytes None takes fits h is r = absurd cc
next_takes next P E bytes (Some (c, rest)) takes fits h is r =
    let found = record_takes bytes c rest fits is in
    fitting_takes next P E c bytes rest (cause P c) takes fits h found.0 found.1 refl r

entered_takes : (n : ℕ) (P E : List ChangeParts) (bytes : List ℕ) → AreBytes bytes → IsHistory P → entered_from n P bytes ≡ Some E → IsEntered P bytes E
unfolding entered_from
entered_takes zero P E bytes fits h r = absurd cc
entered_takes (suc n) P E bytes fits h r =
    let next : List ChangeParts → List ℕ → Option (List ChangeParts) = λ D rest. entered_from n D rest in
    let tests : Bool → Option (List ChangeParts) = λ b. cond b (Some P) (entered_next next P (journal_record_at bytes)) in
    elim (cases_Bool (is_short_tail bytes)) [
      | inl t ↦ entered_none P E bytes h (tested_short bytes fits t) (sym (ap tests t) ∙ r)
      | inr f ↦ next_takes next P E bytes (journal_record_at bytes) (λ Q b. entered_takes n Q E b) fits h refl (sym (ap tests f) ∙ r)
    ]

-- ---- whole journals

few_records : (C : List ChangeParts) → length C ≤ length (bytes_of_records C)
few_records [] = omega arith
few_records (c ∷ C) =
    let parts = length-append (record_of c) (bytes_of_records C) in
    let own = length-record_of c in
    let rest = few_records C in
    omega arith

id_there : (id : DocId) (x : List ℕ) → IsDocId id → id_after_magic (header_of id ++ x) ≡ id
id_there id x is =
    let made : List ℕ → DocId = λ l. record { 0 = l } in
    ap (λ l. made (take 16 (drop 8 l))) (append_assoc MAGIC id.0 x)
    ∙ ap (λ l. made (take 16 l)) (drop_at MAGIC (id.0 ++ x) 8 refl)
    ∙ ap made (take_at id.0 x 16 is.count)

recovered_after : (id : DocId) (x : List ℕ) → IsDocId id → recovery_of (header_of id ++ x) ≡ with_keep id (entered_from (suc (length (header_of id ++ x))) [] x)
unfolding recovery_of
recovered_after id x is =
    let bytes = header_of id ++ x in
    let head = length-header_of id is in
    let parts = length-append (header_of id) x in
    let magic : starts_with nat_eq bytes MAGIC ≡ true = ap (λ b. starts_with nat_eq b MAGIC) (append_assoc MAGIC id.0 x) ∙ starts MAGIC (id.0 ++ x) in
    let long : leb 24 (length bytes) ≡ true = le-leb 24 (length bytes) (omega arith) in
    ap (λ b. cond b (with_keep (id_after_magic bytes) (entered_from (suc (length bytes)) [] (drop 24 bytes))) None) (and_from (starts_with nat_eq bytes MAGIC) (leb 24 (length bytes)) magic long)
    ∙ ap (λ i. with_keep i (entered_from (suc (length bytes)) [] (drop 24 bytes))) (id_there id x is)
    ∙ ap (λ l. with_keep id (entered_from (suc (length bytes)) [] l)) (drop_at (header_of id) x 24 head)

-- what recovers is given
pub recovered_again : (bytes : List ℕ) (id : DocId) (C : List ChangeParts) (keep : ℕ) → Recovers bytes id C keep → recovery_of bytes ≡ Some (id, C, keep)
recovered_again bytes id C keep r =
    let x = bytes_of_records C ++ r.tail in
    let whole : bytes ≡ header_of id ++ x = r.spelled ∙ append_assoc (header_of id) (bytes_of_records C) r.tail in
    let few = few_records C in
    let outer = length-append (header_of id) x in
    let inner = length-append (bytes_of_records C) r.tail in
    ap recovery_of whole
    ∙ recovered_after id x r.is_id
    ∙ ap (with_keep id) (entered_again (suc (length (header_of id ++ x))) [] C r.tail r.history r.short (omega arith))
    ∙ ap (λ (k : ℕ). let o : Option (DocId × List ChangeParts × ℕ) = Some (id, C, k) in o) (sym r.keep_is)

kept_parts : (i id : DocId) (o : Option (List ChangeParts)) (C : List ChangeParts) (keep : ℕ) → with_keep i o ≡ Some (id, C, keep) → (i ≡ id) × (o ≡ Some C) × (keep ≡ length (journal id C))
kept_parts i id None C keep e = absurd cc
kept_parts i id (Some D) C keep e =
    let same : (let p : DocId × List ChangeParts × ℕ = (i, D, length (journal i D)) in p) ≡ (id, C, keep) = cc in
    let ids : i ≡ id = ap (λ (p : DocId × List ChangeParts × ℕ). p.0) same in
    let lists : D ≡ C = ap (λ (p : DocId × List ChangeParts × ℕ). p.1) same in
    (ids, ap Some lists, sym (ap (λ (p : DocId × List ChangeParts × ℕ). p.2) same) ∙ ap (λ j. length (journal j D)) ids ∙ ap (λ l. length (journal id l)) lists)

header_spelled : (bytes : List ℕ) → starts_with nat_eq bytes MAGIC ≡ true → 24 ≤ length bytes → bytes ≡ header_of (id_after_magic bytes) ++ drop 24 bytes
header_spelled bytes t long =
    let beyond = drop 8 bytes in
    let back : drop 16 beyond ≡ drop 24 bytes = drop-drop 16 8 bytes in
    begun bytes MAGIC t
    ∙ ap (λ l. MAGIC ++ l) (sym (take-append-drop 16 beyond) ∙ ap (λ l. take 16 beyond ++ l) back)
    ∙ sym (append_assoc MAGIC (take 16 beyond) (drop 24 bytes))

test_true : {X : Type 0} (test : Bool) (o : Option X) (x : X) → cond test o None ≡ Some x → (test ≡ true) × (o ≡ Some x)
test_true true o x e = (refl, e)
test_true false o x e = absurd cc

-- what is given recovers
pub recovered_takes : (bytes : List ℕ) (id : DocId) (C : List ChangeParts) (keep : ℕ) → AreBytes bytes → recovery_of bytes ≡ Some (id, C, keep) → Recovers bytes id C keep
unfolding recovery_of
recovered_takes bytes id C keep fits e =
    let i = id_after_magic bytes in
    let beyond = drop 24 bytes in
    let o = entered_from (suc (length bytes)) [] beyond in
    let there = test_true (starts_with nat_eq bytes MAGIC && leb 24 (length bytes)) (with_keep i o) (id, C, keep) e in
    let tests = and_parts (starts_with nat_eq bytes MAGIC) (leb 24 (length bytes)) there.0 in
    let long = leb-true 24 (length bytes) tests.1 in
    let spelled = header_spelled bytes tests.0 long in
    let parts = kept_parts i id o C keep there.1 in
    let entered = entered_takes (suc (length bytes)) [] C beyond (AreBytes-rest (header_of i) bytes beyond spelled fits) history_none parts.1 in
    let own : IsDocId i = record {
      count = let cut = length-take 16 (drop 8 bytes) in let rest = length-drop 8 bytes in omega arith;
      each = AreBytes-take 16 (drop 8 bytes) (AreBytes-rest (take 8 bytes) bytes (drop 8 bytes) (sym (take-append-drop 8 bytes)) fits);
    } in
    let lists : beyond ≡ bytes_of_records C ++ entered.tail = entered.spelled ∙ ap (λ l. bytes_of_records l ++ entered.tail) (sym entered.all) in
    let fields : bytes ≡ header_of id ++ (bytes_of_records C ++ entered.tail) = spelled ∙ ap (λ j. header_of j ++ beyond) parts.0 ∙ ap (λ l. header_of id ++ l) lists in
    record {
      tail = entered.tail;
      is_id = subst IsDocId parts.0 own;
      history = entered.history;
      short = entered.short;
      spelled = fields ∙ sym (append_assoc (header_of id) (bytes_of_records C) entered.tail);
      keep_is = parts.2;
    }
