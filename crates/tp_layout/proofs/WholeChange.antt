-- The laws of the whole: the bytes of a change are read as it, what is read is a change that the bytes spell, and a
-- fault other than missing bytes and a missing run stays, whatever follows.
use Rattle.std.proofs.Common.{◌≡◌, ℕ, ◌+◌, ◌<◌, ◌≤◌, Bool, true, false, cond, eqb, leb, List, [], ◌∷◌, ◌++◌, length, Result, Ok, Err, refl, sym, ap, ◌∙◌, append-nil, arith, ◌⊎◌, inl, inr, eqb-true, eq-eqb, le-leb, leb-true}
use Rattle.std.specs.Prelude.{encode_utf8_all}
use Rattle.std.specs.Int.{w32, w64, to_be_bytes}
use Rattle.std.specs.List.{flat_map, AllByRecursion}
use Rattle.std.proofs.lemmas.Bool.{cases_eq}
use Rattle.std.proofs.lemmas.List.{length-append, nil_from_length}
use Rattle.std.proofs.lemmas.List.Concat.{flat_map-cons}
use Rattle.tp_list.proofs.Tests.{or_left, or_right}
use Rattle.tp_codec.specs.Reading.{and_then, require, give}
use Rattle.tp_codec.proofs.Fields.{AreBytes, IsField, as_field, give_field, then_field, require_field, EachFits, reads_more}
use Rattle.tp_layout.specs.declared.error.ChangeError.{ChangeError}
use Rattle.tp_layout.specs.declared.error.ChangeError.TheVariants.{Short, Trailing, Limit, NoRun}
use Rattle.tp_layout.specs.declared.record.Record.{Record}
use Rattle.tp_layout.specs.declared.record.Record.TheVariants.{Insert, Delete, DeleteRun}
use Rattle.tp_layout.specs.declared.parts.ChangeParts.{ChangeParts}
use Rattle.tp_layout.specs.Counts.{count_in, count_of}
use Rattle.tp_layout.specs.Spelling.{spelling_of_place, spelling_of_run, spelling_of_record, spelling_of_message, spelling_of_deps, spelling_of_records, is_run, has_run, version_of, spelling}
use Rattle.tp_layout.specs.Limits.{IsRecord, IsChange}
use Rattle.tp_layout.specs.Reading.{version_at, room_after, room_from, parts_at, sized_at, check_version, end_of_change, change_at}
use Rattle.tp_layout.proofs.ChangeFields.{FitsVersion, version_field, parts_field, FitsRecord, FitsParts, spelling_of_parts}
use Rattle.tp_layout.proofs.Counts.{length-le-count_of}

-- ---- what is read is within the limits, and the other way round

record_is : (runs : Bool) (room : ℕ) (r : Record) → length (spelling_of_record r) ≤ 4194304 → FitsRecord runs room r → IsRecord r × ((count_in r ≤ room) × (1 ≤ count_in r))
record_is runs room (Insert after text) size fit =
    let a : length (spelling_of_place after ++ spelling_of_run text) ≡ length (spelling_of_place after) + length (spelling_of_run text) = length-append (spelling_of_place after) (spelling_of_run text) in
    let b : length (spelling_of_run text) ≡ length (to_be_bytes w32 (length (encode_utf8_all text))) + length (encode_utf8_all text) = length-append (to_be_bytes w32 (length (encode_utf8_all text))) (encode_utf8_all text) in
    let bytes : length (encode_utf8_all text) ≤ 4194304 = omega arith in
    ((fit.0, record { scalars = fit.1.scalars; bytes = bytes }, fit.2), (fit.3, fit.2))
record_is runs room (Delete target) size fit = (fit.0, (fit.1, omega arith))
record_is runs room (DeleteRun first count) size fit = ((fit.1, fit.3, fit.5), (fit.4, omega (arith, fit.3)))

records_are : (runs : Bool) (room : ℕ) (rs : List Record) → length (flat_map spelling_of_record rs) ≤ 4194304 → EachFits (FitsRecord runs) room_after room rs → AllByRecursion IsRecord rs × (count_of rs ≤ room)
records_are runs room [] size fit = (tt, omega arith)
records_are runs room (r ∷ rs) size fit =
    let parts : length (flat_map spelling_of_record (r ∷ rs)) ≡ length (spelling_of_record r) + length (flat_map spelling_of_record rs) = ap length (flat_map-cons spelling_of_record r rs) ∙ length-append (spelling_of_record r) (flat_map spelling_of_record rs) in
    let first = record_is runs room r (omega arith) fit.0 in
    let others = records_are runs (room_after room r) rs (omega arith) fit.1 in
    ((first.0, others.0), omega (arith, first.1.0, others.1))

record_fits : (runs : Bool) (room : ℕ) (r : Record) → room ≤ 65536 → (is_run r ≡ true → runs ≡ true) → IsRecord r → count_in r ≤ room → FitsRecord runs room r
record_fits runs room (Insert after text) small allowed is few = (is.0, record { scalars = is.1.scalars; bytes = omega (arith, is.1.bytes) }, is.2, few)
record_fits runs room (Delete target) small allowed is few = (is, few)
record_fits runs room (DeleteRun first count) small allowed is few = (allowed refl, is.0, omega arith, is.1, few, is.2)

records_fit : (runs : Bool) (room : ℕ) (rs : List Record) → room ≤ 65536 → (has_run rs ≡ true → runs ≡ true) → AllByRecursion IsRecord rs → count_of rs ≤ room → EachFits (FitsRecord runs) room_after room rs
records_fit runs room [] small allowed is few = tt
records_fit runs room (r ∷ rs) small allowed is few = (
  record_fits runs room r small (λ h. allowed (or_left (is_run r) (has_run rs) h)) is.0 (omega arith),
  records_fit runs (room_after room r) rs (omega arith) (λ h. allowed (or_right (is_run r) (has_run rs) h)) is.1 (omega arith),
)

-- a version without runs of deletes reads none
pub none_is_run : (room : ℕ) (rs : List Record) → EachFits (FitsRecord false) room_after room rs → has_run rs ≡ false
none_is_run room [] fit = refl
none_is_run room (Insert after text ∷ rs) fit = none_is_run (room_after room (Insert after text)) rs fit.1
none_is_run room (Delete target ∷ rs) fit = none_is_run (room_after room (Delete target)) rs fit.1
none_is_run room (DeleteRun first count ∷ rs) fit = absurd (let wrong : false ≡ true = fit.0.0 in cc)

-- how long a spelling is
pub length-spelling : (c : ChangeParts) → length (spelling c) ≡ 1 + (length c.actor.0 + (8 + (8 + (8 + (length (spelling_of_message c.message) + (length (spelling_of_deps c.deps) + (4 + length (flat_map spelling_of_record c.records))))))))
unfolding spelling
length-spelling c =
    let r = spelling_of_records c.records in
    let d = spelling_of_deps c.deps ++ r in
    let m = spelling_of_message c.message ++ d in
    let t = to_be_bytes w64 c.time ++ m in
    let st = to_be_bytes w64 c.start ++ t in
    let s = to_be_bytes w64 c.seq ++ st in
    omega (
      arith,
      length-append c.actor.0 s,
      length-append (to_be_bytes w64 c.seq) st,
      length-append (to_be_bytes w64 c.start) t,
      length-append (to_be_bytes w64 c.time) m,
      length-append (spelling_of_message c.message) d,
      length-append (spelling_of_deps c.deps) r,
      length-append (to_be_bytes w32 (length c.records)) (flat_map spelling_of_record c.records),
    )

pub parts_are : (runs : Bool) (c : ChangeParts) → FitsParts runs c → length (spelling c) ≤ 4194304 → IsChange c
parts_are runs c fit size =
    let few : length (flat_map spelling_of_record c.records) ≤ 4194304 = omega (arith, length-spelling c) in
    let rs = records_are runs (room_from c.start) c.records few fit.records.each in
    record {
      actor = fit.actor;
      seq_from = fit.seq_from;
      seq_to = fit.seq_to;
      start_from = fit.start_from;
      time = fit.time;
      message = fit.message;
      deps = fit.deps.hashes;
      deps_rise = fit.deps.rise;
      deps_count = fit.deps.count;
      records = rs.0;
      records_some = fit.records.some;
      operations = omega (arith, rs.1);
      counters = omega (arith, rs.1, fit.start_to);
      size = size;
    }

pub parts_fit : (runs : Bool) (c : ChangeParts) → (has_run c.records ≡ true → runs ≡ true) → IsChange c → FitsParts runs c
parts_fit runs c allowed is =
    let some : length c.records ≤ count_of c.records = length-le-count_of c.records is.records in
    record {
      actor = is.actor;
      seq_from = is.seq_from;
      seq_to = is.seq_to;
      start_from = is.start_from;
      start_to = omega (arith, is.counters, is.records_some);
      time = is.time;
      message = is.message;
      deps = record { hashes = is.deps; rise = is.deps_rise; count = is.deps_count };
      records = record { some = is.records_some; count = omega (arith, is.operations); each = records_fit runs (room_from c.start) c.records (omega arith) allowed is.records (omega (arith, is.operations, is.counters)) };
    }

-- ---- the whole

-- the bytes of a version and parts
abbrev pub spelling_of_versioned : ℕ × ChangeParts → List ℕ
spelling_of_versioned x = x.0 ∷ spelling_of_parts x.1

-- what a version and parts that are read have
abbrev pub FitsVersioned : ℕ → ℕ × ChangeParts → Type 0
FitsVersioned size x = FitsVersion x.0 × ((leb size 4194304 ≡ true) × FitsParts (eqb x.0 2) x.1)

pub sized_field : (size : ℕ) → IsField Short (sized_at size) spelling_of_versioned (FitsVersioned size)
unfolding sized_at
sized_field size =
    as_field Short (sized_at size) (λ (x : ℕ × ChangeParts). (x.0 ∷ []) ++ (spelling_of_parts x.1 ++ [])) spelling_of_versioned (λ x. FitsVersion x.0 × ((leb size 4194304 ≡ true) × (FitsParts (eqb x.0 2) x.1 × (x ≡ (x.0, x.1))))) (FitsVersioned size)
    (then_field Short version_at (λ v. and_then (require (leb size 4194304) Limit) (λ _. and_then (parts_at (eqb v 2)) (λ c. give (v, c)))) (λ v. v ∷ []) FitsVersion
    (λ (x : ℕ × ChangeParts). x.0) (λ x. spelling_of_parts x.1 ++ []) (λ v x. (leb size 4194304 ≡ true) × (FitsParts (eqb v 2) x.1 × (x ≡ (v, x.1))))
    version_field
    (λ v fit. require_field Short (leb size 4194304) Limit (and_then (parts_at (eqb v 2)) (λ c. give (v, c))) (λ x. spelling_of_parts x.1 ++ []) (λ x. FitsParts (eqb v 2) x.1 × (x ≡ (v, x.1)))
    (λ _. then_field Short (parts_at (eqb v 2)) (λ c. give (v, c)) spelling_of_parts (FitsParts (eqb v 2))
    (λ (x : ℕ × ChangeParts). x.1) (λ _. []) (λ c x. x ≡ (v, c))
    (parts_field (eqb v 2)) (λ c fits. give_field Short (v, c)) (λ c x e. ap (λ (y : ℕ × ChangeParts). y.1) e)))
    (λ v x fit. ap (λ (y : ℕ × ChangeParts). y.0) fit.1.1))
    (λ x fit. ap (λ (b : List ℕ). x.0 ∷ b) (append-nil (spelling_of_parts x.1))) (λ x fit. (fit.0, (fit.1.0, fit.1.1.0))) (λ x fit. (fit.0, (fit.1.0, (fit.1.1, refl))))

version_fits : (rs : List Record) → FitsVersion (version_of rs)
version_fits rs = elim (has_run rs) as (λ b. FitsVersion (cond b 2 1)) [ true ↦ refl | false ↦ refl ]

-- the version of records with a run has runs
version_allows : (rs : List Record) → has_run rs ≡ true → eqb (version_of rs) 2 ≡ true
version_allows rs h = ap (λ b. eqb (cond b 2 1) 2) h

-- a change with its version
abbrev pub with_version : ChangeParts → ℕ × ChangeParts
with_version c = (version_of c.records, c)

-- the bytes of a change are read as its version and its parts, whatever follows
pub sized_again : (size : ℕ) (c : ChangeParts) (more : List ℕ) → size ≤ 4194304 → IsChange c → sized_at size (spelling c ++ more) ≡ Ok (with_version c, more)
unfolding spelling
sized_again size c more small is =
    (sized_field size).again (with_version c) more (version_fits c.records, (le-leb size 4194304 small, parts_fit (eqb (version_of c.records) 2) c (version_allows c.records) is))

pair_is : (v : ℕ) (d c : ChangeParts) → v ≡ version_of d.records → d ≡ c → (v, d) ≡ with_version c
pair_is v d c h e = ap (λ (n : ℕ). (n, d)) h ∙ ap with_version e

versioned_ok : (x : ℕ × ChangeParts) (c : ChangeParts) → check_version x ≡ Ok c → x ≡ with_version c
unfolding check_version
versioned_ok x c e = by_test (eqb x.0 (version_of x.1.records)) refl e
  where
    by_test : (b : Bool) → eqb x.0 (version_of x.1.records) ≡ b → (let t : Result ChangeParts ChangeError = cond b (Ok x.1) (Err NoRun) in t) ≡ Ok c → x ≡ with_version c
    by_test true h e = pair_is x.0 x.1 c (eqb-true x.0 (version_of x.1.records) h) cc
    by_test false h e = absurd cc

versioned_again : (c : ChangeParts) → check_version (with_version c) ≡ Ok c
unfolding check_version
versioned_again c = rw (eq-eqb (version_of c.records) (version_of c.records) refl) refl

pub versioned_apart : (x : ℕ × ChangeParts) → eqb x.0 (version_of x.1.records) ≡ false → check_version x ≡ Err NoRun
unfolding check_version
versioned_apart x h = rw h refl

ended_ok : (r : Result ((ℕ × ChangeParts) × List ℕ) ChangeError) (c : ChangeParts) → end_of_change r ≡ Ok c → r ≡ Ok (with_version c, [])
unfolding end_of_change
ended_ok (Ok x) c e = by_test (eqb (length x.1) 0) refl e
  where
    by_test : (b : Bool) → eqb (length x.1) 0 ≡ b → cond b (check_version x.0) (Err Trailing) ≡ Ok c → (let t : Result ((ℕ × ChangeParts) × List ℕ) ChangeError = Ok x in t) ≡ Ok (with_version c, [])
    by_test true h e =
        let none : x.1 ≡ [] = nil_from_length x.1 (eqb-true _ _ h) in
        ap (λ (p : (ℕ × ChangeParts) × List ℕ). Ok p) (ap (λ (q : ℕ × ChangeParts). (q, x.1)) (versioned_ok x.0 c e) ∙ ap (λ (q : List ℕ). (with_version c, q)) none)
    by_test false h e = absurd cc
ended_ok (Err d) c e = absurd cc

pub ended_of_all : (r : Result ((ℕ × ChangeParts) × List ℕ) ChangeError) (x : ℕ × ChangeParts) → r ≡ Ok (x, []) → end_of_change r ≡ check_version x
unfolding end_of_change
ended_of_all r x e = rw e refl

-- the spelling is of the version and the parts
pub spelling_is : (c : ChangeParts) → spelling_of_versioned (with_version c) ≡ spelling c
unfolding spelling
spelling_is c = refl

-- What is read is a change, and the bytes spell it.
pub change_takes : (bytes : List ℕ) (c : ChangeParts) → AreBytes bytes → change_at bytes ≡ Ok c → IsChange c × (bytes ≡ spelling c)
unfolding change_at
change_takes bytes c fits e =
    let r = ended_ok (sized_at (length bytes) bytes) c e in
    let t = (sized_field (length bytes)).takes bytes (with_version c) [] fits r in
    let whole : bytes ≡ spelling c = t.0 ∙ append-nil (spelling_of_versioned (with_version c)) ∙ spelling_is c in
    let small : length bytes ≤ 4194304 = leb-true (length bytes) 4194304 t.1.1.0 in
    (parts_are (eqb (version_of c.records) 2) c t.1.1.1 (rw (← whole) small), whole)

-- The bytes of a change are read as it.
pub change_again : (c : ChangeParts) → IsChange c → change_at (spelling c) ≡ Ok c
unfolding change_at
change_again c is =
    let n = length (spelling c) in
    ended_of_all (sized_at n (spelling c)) (with_version c) (ap (sized_at n) (sym (append-nil (spelling c))) ∙ sized_again n c [] is.size is) ∙ versioned_again c

-- ---- whatever follows

some_left : (n : ℕ) → eqb n 0 ≡ false → 0 < n
some_left n h = elim (cases_eq n 0) [ inl none ↦ absurd (let wrong : eqb n 0 ≡ true = eq-eqb n 0 none in cc) | inr some ↦ omega arith ]

-- why what was read isn't a change: the fault was met, bytes follow, or the version isn't that of the records
pub data EndedBy (r : Result ((ℕ × ChangeParts) × List ℕ) ChangeError) (e : ChangeError) : Type 0 where
  met : r ≡ Err e → EndedBy r e
  follows : (x : ℕ × ChangeParts) (rest : List ℕ) → r ≡ Ok (x, rest) → 0 < length rest → e ≡ Trailing → EndedBy r e
  other_version : (x : ℕ × ChangeParts) → r ≡ Ok (x, []) → eqb x.0 (version_of x.1.records) ≡ false → e ≡ NoRun → EndedBy r e

pub versioned_err : (x : ℕ × ChangeParts) (e : ChangeError) → check_version x ≡ Err e → (eqb x.0 (version_of x.1.records) ≡ false) × (e ≡ NoRun)
unfolding check_version
versioned_err x e h = by_test (eqb x.0 (version_of x.1.records)) refl h
  where
    by_test : (b : Bool) → eqb x.0 (version_of x.1.records) ≡ b → (let t : Result ChangeParts ChangeError = cond b (Ok x.1) (Err NoRun) in t) ≡ Err e → (eqb x.0 (version_of x.1.records) ≡ false) × (e ≡ NoRun)
    by_test true t r = absurd cc
    by_test false t r = (t, cc)

pub ended_err : (r : Result ((ℕ × ChangeParts) × List ℕ) ChangeError) (e : ChangeError) → end_of_change r ≡ Err e → EndedBy r e
unfolding end_of_change
ended_err (Ok x) e h = by_test (eqb (length x.1) 0) refl h
  where
    by_test : (b : Bool) → eqb (length x.1) 0 ≡ b → cond b (check_version x.0) (Err Trailing) ≡ Err e → EndedBy (Ok x) e
    by_test true t r =
        let none : x.1 ≡ [] = nil_from_length x.1 (eqb-true _ _ t) in
        let v = versioned_err x.0 e r in
        other_version x.0 (ap (λ (q : List ℕ). Ok (x.0, q)) none) v.0 v.1
    by_test false t r = follows x.0 x.1 refl (some_left (length x.1) t) cc
ended_err (Err d) e h = met (let same : d ≡ e = cc in ap (λ (f : ChangeError). Err f) same)

ended_of_err : (r : Result ((ℕ × ChangeParts) × List ℕ) ChangeError) (e : ChangeError) → r ≡ Err e → end_of_change r ≡ Err e
unfolding end_of_change
ended_of_err r e h = rw h refl

ended_of_more : (r : Result ((ℕ × ChangeParts) × List ℕ) ChangeError) (x : ℕ × ChangeParts) (rest : List ℕ) → 0 < length rest → r ≡ Ok (x, rest) → end_of_change r ≡ Err Trailing
unfolding end_of_change
ended_of_more r x rest some h = rw h (trailing (eqb (length rest) 0) refl)
  where
    trailing : (t : Bool) → eqb (length rest) 0 ≡ t → cond t (check_version x) (Err Trailing) ≡ Err Trailing
    trailing true e = absurd (let none = eqb-true _ _ e in omega arith)
    trailing false e = refl

-- Within the limit the size plays no part.
same_size : (m n : ℕ) (bytes : List ℕ) → m ≤ 4194304 → n ≤ 4194304 → sized_at m bytes ≡ sized_at n bytes
unfolding sized_at
same_size m n bytes a b = rw (le-leb m 4194304 a, le-leb n 4194304 b) refl

-- What was read is read, whatever follows within the limit.
sized_more : (bytes more : List ℕ) (x : ℕ × ChangeParts) (rest : List ℕ) → AreBytes bytes → length (bytes ++ more) ≤ 4194304 → sized_at (length bytes) bytes ≡ Ok (x, rest) → sized_at (length (bytes ++ more)) (bytes ++ more) ≡ Ok (x, rest ++ more)
sized_more bytes more x rest fits size r =
    let len : length (bytes ++ more) ≡ length bytes + length more = length-append bytes more in
    let n = length bytes in
    same_size (length (bytes ++ more)) n (bytes ++ more) size (omega arith)
    ∙ reads_more Short (sized_at n) spelling_of_versioned (FitsVersioned n) (sized_field n) bytes more x rest fits r

-- A fault of a field stays, whatever follows within the limit.
sized_stays : (bytes more : List ℕ) (e : ChangeError) → AreBytes bytes → length (bytes ++ more) ≤ 4194304 → sized_at (length bytes) bytes ≡ Err e → (e ≡ Short → ⊥) → sized_at (length (bytes ++ more)) (bytes ++ more) ≡ Err e
sized_stays bytes more e fits size r apart =
    let len : length (bytes ++ more) ≡ length bytes + length more = length-append bytes more in
    same_size (length (bytes ++ more)) (length bytes) (bytes ++ more) size (omega arith) ∙ (sized_field (length bytes)).stays bytes more e fits r apart

longer_rest : (rest more : List ℕ) → 0 < length rest → 0 < length (rest ++ more)
longer_rest rest more some = omega (arith, length-append rest more)

-- A fault other than missing bytes and a missing run stays, whatever follows within the limit.
pub change_stays : (bytes more : List ℕ) (e : ChangeError) → AreBytes bytes → length (bytes ++ more) ≤ 4194304 → change_at bytes ≡ Err e → (e ≡ Short → ⊥) → (e ≡ NoRun → ⊥) → change_at (bytes ++ more) ≡ Err e
unfolding change_at
change_stays bytes more e fits size r apart ran =
    elim (ended_err (sized_at (length bytes) bytes) e r) [
      | met bad ↦ ended_of_err (sized_at (length (bytes ++ more)) (bytes ++ more)) e (sized_stays bytes more e fits size bad apart)
      | follows x rest read some late ↦
          ended_of_more (sized_at (length (bytes ++ more)) (bytes ++ more)) x (rest ++ more) (longer_rest rest more some) (sized_more bytes more x rest fits size read) ∙ ap (λ (f : ChangeError). Err f) (sym late)
      | other_version x read apart_version late ↦ absurd (ran late)
    ]

-- What was read to its end is judged by its version, or followed by bytes too many.
ended_or_more : (r : Result ((ℕ × ChangeParts) × List ℕ) ChangeError) (x : ℕ × ChangeParts) (rest : List ℕ) → r ≡ Ok (x, rest) → (end_of_change r ≡ check_version x) ⊎ (end_of_change r ≡ Err Trailing)
ended_or_more r x [] h = inl (ended_of_all r x h)
ended_or_more r x (b ∷ rest) h = inr (ended_of_more r x (b ∷ rest) (omega arith) h)

-- What follows a change is either nothing or bytes too many.
pub change_and_more : (c : ChangeParts) (more : List ℕ) → IsChange c → length (spelling c ++ more) ≤ 4194304 → (change_at (spelling c ++ more) ≡ Ok c) ⊎ (change_at (spelling c ++ more) ≡ Err Trailing)
unfolding change_at
change_and_more c more is size =
    let n = length (spelling c ++ more) in
    elim (ended_or_more (sized_at n (spelling c ++ more)) (with_version c) more (sized_again n c more size is)) [
      | inl ok ↦ inl (ok ∙ versioned_again c)
      | inr bad ↦ inr bad
    ]

-- After bytes that only want a run come bytes too many, if any.
pub run_wanted_and_more : (bytes more : List ℕ) → AreBytes bytes → length (bytes ++ more) ≤ 4194304 → change_at bytes ≡ Err NoRun → (change_at (bytes ++ more) ≡ Err NoRun) ⊎ (change_at (bytes ++ more) ≡ Err Trailing)
unfolding change_at
run_wanted_and_more bytes more fits size r =
    elim (ended_err (sized_at (length bytes) bytes) NoRun r) [
      | met bad ↦ inl (ended_of_err (sized_at (length (bytes ++ more)) (bytes ++ more)) NoRun (sized_stays bytes more NoRun fits size bad (λ same. cc)))
      | follows x rest read some late ↦ absurd cc
      | other_version x read apart late ↦
          elim (ended_or_more (sized_at (length (bytes ++ more)) (bytes ++ more)) x more (sized_more bytes more x [] fits size read)) [
            | inl judged ↦ inl (judged ∙ versioned_apart x apart)
            | inr trailing ↦ inr trailing
          ]
    ]
