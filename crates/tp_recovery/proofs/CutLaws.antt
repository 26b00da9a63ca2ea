-- Records that are cut short after a journal, and beginnings of a journal.
use Rattle.std.proofs.Common.{◌≡◌, ℕ, zero, suc, ◌-◌, ◌<◌, ◌≤◌, inl, inr, List, [], ◌∷◌, ◌++◌, length, take, refl, sym, ap, ◌∙◌, subst, append_assoc, append-nil, arith}
use Rattle.std.specs.Int.{w32, to_be_bytes}
use Rattle.std.proofs.lemmas.Bool.{cases_lt}
use Rattle.std.proofs.lemmas.Grind.{flat_map-append}
use Rattle.std.proofs.lemmas.List.{length-append, length-take, take_all, take-append-le}
use Rattle.tp_list.proofs.Members.{In-right}
use Rattle.tp_opid.specs.declared.doc_id.DocId.{DocId}
use Rattle.tp_layout.specs.declared.parts.ChangeParts.{ChangeParts}
use Rattle.tp_change.specs.ChangeHash.{hash_of}
use Rattle.tp_layout.specs.Limits.{IsChange, AllChanges}
use Rattle.tp_layout.specs.Spelling.{spelling}
use Rattle.tp_layout.proofs.SpellingLaws.{spelling_bounds}
use Rattle.tp_recovery.specs.Layout.{IsDocId, header_of, record_of, bytes_of_records, journal, IsShortTail}
use Rattle.tp_recovery.specs.Recovery.{IsHistory, Recovers}
use Rattle.tp_recovery.specs.Laws.{AreWhole, RecoversCut}
use Rattle.tp_recovery.proofs.RecordLaws.{length-record_of, length-header_of}
use Rattle.tp_recovery.proofs.HistoryLaws.{history_prefix}

-- the first bytes of a list, past its prefix
take_past : (p q : List ℕ) (k : ℕ) → length p ≤ k → take k (p ++ q) ≡ p ++ take (k - length p) q
take_past [] q k le = let same : k ≡ k - 0 = omega arith in ap (λ n. take n q) same
take_past (a ∷ p) q zero le = absurd (omega arith)
take_past (a ∷ p) q (suc k) le =
    let same : k - length p ≡ suc k - length (a ∷ p) = omega arith in
    ap (λ l. a ∷ l) (take_past p q k (omega arith) ∙ ap (λ n. p ++ take n q) same)

-- fewer bytes than a record has are a short tail
cut_record : (c : ChangeParts) (k : ℕ) → IsChange c → k < length (record_of c) → IsShortTail (take k (record_of c))
unfolding record_of
cut_record c k is lt =
    let size = length (spelling c) in
    let prefix = to_be_bytes w32 size in
    let body = spelling c ++ (hash_of c).0 in
    let bounds = spelling_bounds c is in
    let whole = length-record_of c in
    elim (cases_lt k 4) [
      | inl few ↦ inl (let cut = length-take k (prefix ++ body) in omega arith)
      | inr many ↦ inr (record {
        size = size;
        rest = take (k - 4) body;
        some = bounds.0;
        few = bounds.1;
        spelled = take_past prefix body k many;
        short = let cut = length-take (k - 4) body in let some = bounds.0 in omega arith;
      })
    ]

-- What is left of records that are cut short: those that are whole, and a short tail.
record IsCutOf (C : List ChangeParts) (k : ℕ) : Type 0 where
  whole : List ChangeParts
  are_whole : AreWhole C k whole
  tail : List ℕ
  short : IsShortTail tail
  spelled : take k (bytes_of_records C) ≡ bytes_of_records whole ++ tail

length-one : (c : ChangeParts) → length (bytes_of_records (c ∷ [])) ≡ length (record_of c)
length-one c = ap length (append-nil (record_of c))

same_first : (c d : ChangeParts) (C D : List ChangeParts) → c ∷ C ≡ d ∷ D → c ≡ d
same_first c d C D e = cc

-- the first record isn't whole
cut_first : (c : ChangeParts) (C : List ChangeParts) (k : ℕ) → IsChange c → k < length (record_of c) → IsCutOf (c ∷ C) k
cut_first c C k is lt = record {
  whole = [];
  are_whole = record {
    others = c ∷ C;
    split = refl;
    within = omega arith;
    torn = λ d more e. subst (λ x. k < length (bytes_of_records (x ∷ []))) (same_first c d C more e) (let own = length-one c in omega arith);
  };
  tail = take k (record_of c);
  short = cut_record c k is lt;
  spelled = take-append-le k (record_of c) (bytes_of_records C) (omega arith);
}

-- the first record is whole
cut_later : (c : ChangeParts) (C : List ChangeParts) (k : ℕ) → length (record_of c) ≤ k → IsCutOf C (k - length (record_of c)) → IsCutOf (c ∷ C) k
cut_later c C k le cut = record {
  whole = c ∷ cut.whole;
  are_whole = record {
    others = cut.are_whole.others;
    split = ap (λ l. c ∷ l) cut.are_whole.split;
    within = let parts = length-append (record_of c) (bytes_of_records cut.whole) in let within = cut.are_whole.within in omega arith;
    torn = λ d more e. let parts = length-append (record_of c) (bytes_of_records (cut.whole ++ d ∷ [])) in let torn = cut.are_whole.torn d more e in omega arith;
  };
  tail = cut.tail;
  short = cut.short;
  spelled =
      take_past (record_of c) (bytes_of_records C) k le
      ∙ ap (λ l. record_of c ++ l) cut.spelled
      ∙ sym (append_assoc (record_of c) (bytes_of_records cut.whole) cut.tail);
}

cut_records : (C : List ChangeParts) (k : ℕ) → AllChanges C → IsCutOf C k
cut_records [] k limits = record {
  whole = [];
  are_whole = record {
    others = [];
    split = refl;
    within = omega arith;
    torn = λ d more e. absurd cc;
  };
  tail = [];
  short = inl (omega arith);
  spelled = take_all k [] (omega arith);
}
cut_records (c ∷ C) k limits =
    elim (cases_lt k (length (record_of c))) [
      | inl lt ↦ cut_first c C k (limits c (inl refl)) lt
      | inr le ↦ cut_later c C k le (cut_records C (k - length (record_of c)) (λ d i. limits d (inr i)))
    ]

-- a journal grows by records
pub journal-append : (id : DocId) (C D : List ChangeParts) → journal id (C ++ D) ≡ journal id C ++ bytes_of_records D
journal-append id C D =
    ap (λ l. header_of id ++ l) (flat_map-append record_of C D) ∙ sym (append_assoc (header_of id) (bytes_of_records C) (bytes_of_records D))

pub journal-push : (id : DocId) (C : List ChangeParts) (c : ChangeParts) → journal id (C ++ c ∷ []) ≡ journal id C ++ record_of c
journal-push id C c = journal-append id C (c ∷ []) ∙ ap (λ l. journal id C ++ l) (append-nil (record_of c))

-- what records that are cut short after a journal recover to
pub recovers_cut : (id : DocId) (C new : List ChangeParts) (k : ℕ) → IsDocId id → IsHistory (C ++ new) → RecoversCut id C new k
recovers_cut id C new k is h =
    let cut = cut_records new k (λ d i. h.limits d (In-right d C new i)) in
    let whole = cut.whole in
    let others = cut.are_whole.others in
    let split : C ++ new ≡ (C ++ whole) ++ others = ap (λ l. C ++ l) cut.are_whole.split ∙ sym (append_assoc C whole others) in
    record {
      whole = whole;
      are_whole = cut.are_whole;
      recovers = record {
        tail = cut.tail;
        is_id = is;
        history = history_prefix (C ++ whole) others (subst IsHistory split h);
        short = cut.short;
        spelled =
            ap (λ l. journal id C ++ l) cut.spelled
            ∙ sym (append_assoc (journal id C) (bytes_of_records whole) cut.tail)
            ∙ ap (λ l. l ++ cut.tail) (sym (journal-append id C whole));
        keep_is = refl;
      };
    }

-- what beginnings of a journal recover to
pub recovers_beginning : (id : DocId) (C : List ChangeParts) (n : ℕ) → IsDocId id → IsHistory C → 24 ≤ n
    → (D : List ChangeParts) × (E : List ChangeParts) × (C ≡ D ++ E) × Recovers (take n (journal id C)) id D (length (journal id D))
recovers_beginning id C n is h le =
    let cut = recovers_cut id [] C (n - 24) is h in
    let head = length-header_of id is in
    let size : n - length (header_of id) ≡ n - 24 = omega arith in
    let same : take n (journal id C) ≡ journal id [] ++ take (n - 24) (bytes_of_records C) =
    take_past (header_of id) (bytes_of_records C) n (omega arith)
    ∙ ap (λ m. header_of id ++ take m (bytes_of_records C)) size
    ∙ ap (λ l. l ++ take (n - 24) (bytes_of_records C)) (sym (append-nil (header_of id))) in
    (cut.whole, cut.are_whole.others, cut.are_whole.split, subst (λ b. Recovers b id cut.whole (length (journal id cut.whole))) (sym same) cut.recovers)
