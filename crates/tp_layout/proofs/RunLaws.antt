-- What the refusal of a version 2 change without a run of deletes says: no field is refused so, the whole alone.
use Rattle.std.proofs.Common.{◌≡◌, ℕ, zero, suc, ◌+◌, ◌≤◌, ◌||◌, Bool, true, false, cond, eqb, leb, ltb, List, [], ◌∷◌, ◌++◌, length, Option, Some, None, Result, Ok, Err, refl, sym, ap, ◌∙◌, append-nil, inl, inr, eqb-true, leb-true, le-leb}
use Rattle.std.specs.Int.{Width, w16, w32, w64}
use Rattle.std.specs.Str.{is_utf8, chars}
use Rattle.tp_list.proofs.Tests.{or_cases}
use Rattle.tp_opid.specs.declared.hash.Hash.{Hash}
use Rattle.tp_opid.specs.declared.op_id.Place.TheVariants.{Start, After}
use Rattle.tp_codec.specs.Prefix.{byte_at, bytes_at, number_at}
use Rattle.tp_codec.specs.Reading.{Reads, give, fail, and_next, and_then, found_or, or_fail, pass_or_fail, require, repeat_at, characters_at, text_at}
use Rattle.tp_codec.proofs.Fields.{AreBytes}
use Rattle.tp_layout.specs.declared.error.ChangeError.{ChangeError}
use Rattle.tp_layout.specs.declared.error.ChangeError.TheVariants.{Version, Short, ZeroSeqOrStart, BadUtf8, DepsOrder, NoRecords, BadTag, EmptyRun, Limit, NoRun}
use Rattle.tp_layout.specs.declared.record.Record.TheVariants.{Insert, Delete, DeleteRun}
use Rattle.tp_layout.specs.declared.parts.ChangeParts.{ChangeParts}
use Rattle.tp_layout.specs.Spelling.{has_run, version_of, spelling}
use Rattle.tp_layout.specs.Faults.{IsVersion2WithoutRun}
use Rattle.tp_layout.specs.Reading.{version_at, actor_at, hash_at, id_at, seq_at, start_at, rises, dep_at, next_before, deps_at, place_after_tag, place_at, insert_at, delete_at, delete_run_at, record_after_tag, record_at, room_after, records_at, room_from, parts_at, sized_at, change_at}
use Rattle.tp_layout.proofs.ChangeFields.{FitsParts, spelling_of_parts}
use Rattle.tp_layout.proofs.WholeChange.{met, follows, other_version, ended_err, ended_of_all, versioned_apart, sized_field, none_is_run, parts_are, parts_fit, spelling_of_versioned}

-- ---- no field is refused so

abbrev IsOther : ChangeError → Type 0
IsOther e = e ≡ NoRun → ⊥

abbrev Passes : {X : Type 0} → Reads ChangeError X → Type 0
Passes field = (bytes : List ℕ) → field bytes ≡ Err NoRun → ⊥

passes_next : {X Y : Type 0} (r : Result (X × List ℕ) ChangeError) (next : X → Reads ChangeError Y) → (r ≡ Err NoRun → ⊥) → ((x : X) → Passes (next x)) → and_next r next ≡ Err NoRun → ⊥
unfolding and_next
passes_next (Ok x) next f g h = g x.0 x.1 h
passes_next (Err e) next f g h = f (let same : e ≡ NoRun = cc in ap (λ (d : ChangeError). Err d) same)

passes_then : {X Y : Type 0} (first : Reads ChangeError X) (next : X → Reads ChangeError Y) → Passes first → ((x : X) → Passes (next x)) → Passes (and_then first next)
unfolding and_then
passes_then first next f g bytes h = passes_next (first bytes) next (f bytes) g h

passes_give : {X : Type 0} (x : X) → Passes (give x)
unfolding give
passes_give x bytes h = cc

passes_fail : {X : Type 0} (e : ChangeError) → IsOther e → Passes {X = X} (fail e)
unfolding fail
passes_fail e other bytes h = other cc

passes_require : (test : Bool) (e : ChangeError) → IsOther e → Passes (require test e)
unfolding require pass_or_fail
passes_require true e other bytes h = cc
passes_require false e other bytes h = other cc

-- a field after a test
passes_test : {X : Type 0} (test : Bool) (e : ChangeError) (next : Reads ChangeError X) → IsOther e → Passes next → Passes (and_then (require test e) (λ _. next))
passes_test test e next other f = passes_then (require test e) (λ _. next) (passes_require test e other) (λ _. f)

passes_found : {X : Type 0} (there : Option (X × List ℕ)) → (let r : Result (X × List ℕ) ChangeError = found_or Short there in r) ≡ Err NoRun → ⊥
unfolding found_or
passes_found (Some x) h = cc
passes_found None h = cc

passes_there : {X : Type 0} (there : List ℕ → Option (X × List ℕ)) → Passes (or_fail Short there)
unfolding or_fail
passes_there there bytes h = passes_found (there bytes) h

passes_text : (w : Width) → Passes (text_at Short BadUtf8 w)
unfolding text_at characters_at
passes_text w =
    passes_then (or_fail Short (number_at w)) (λ n. characters_at Short BadUtf8 n) (passes_there (number_at w))
    (λ n. passes_then (or_fail Short (bytes_at n)) (λ bytes. and_then (require (is_utf8 bytes) BadUtf8) (λ _. give (chars bytes))) (passes_there (bytes_at n))
    (λ bytes. passes_test (is_utf8 bytes) BadUtf8 (give (chars bytes)) (λ e. cc) (passes_give (chars bytes))))

passes_repeat : {S X : Type 0} (field : S → Reads ChangeError X) (step : S → X → S) → ((s : S) → Passes (field s)) → (n : ℕ) (s : S) → Passes (repeat_at field step n s)
unfolding repeat_at and_then and_next
passes_repeat field step f zero s bytes h = cc
passes_repeat field step f (suc n) s bytes h =
    passes_then (field s) (λ x. and_then (repeat_at field step n (step s x)) (λ xs. give (x ∷ xs))) (f s)
    (λ x. passes_then (repeat_at field step n (step s x)) (λ xs. give (x ∷ xs)) (passes_repeat field step f n (step s x)) (λ xs. passes_give (x ∷ xs)))
    bytes h

passes_actor : Passes actor_at
unfolding actor_at
passes_actor = passes_then (or_fail Short (bytes_at 16)) _ (passes_there (bytes_at 16)) (λ bytes. passes_give _)

passes_hash : Passes hash_at
unfolding hash_at
passes_hash = passes_then (or_fail Short (bytes_at 32)) _ (passes_there (bytes_at 32)) (λ bytes. passes_give _)

passes_id : Passes id_at
unfolding id_at
passes_id = passes_then (or_fail Short (number_at w64)) _ (passes_there (number_at w64)) (λ counter. passes_then actor_at _ passes_actor (λ actor. passes_give _))

passes_seq : Passes seq_at
unfolding seq_at
passes_seq = passes_then (or_fail Short (number_at w64)) _ (passes_there (number_at w64)) (λ seq. passes_test (leb 1 seq) ZeroSeqOrStart (give seq) (λ e. cc) (passes_give seq))

passes_start : Passes start_at
unfolding start_at
passes_start =
    passes_then (or_fail Short (number_at w64)) _ (passes_there (number_at w64))
    (λ start. passes_test (leb 1 start) ZeroSeqOrStart _ (λ e. cc) (passes_test (ltb start 281474976710656) Limit (give start) (λ e. cc) (passes_give start)))

passes_dep : (before : Option Hash) → Passes (dep_at before)
unfolding dep_at
passes_dep before = passes_then hash_at _ passes_hash (λ h. passes_test (rises before h) DepsOrder (give h) (λ e. cc) (passes_give h))

passes_deps : Passes deps_at
unfolding deps_at
passes_deps = passes_then (or_fail Short (number_at w16)) _ (passes_there (number_at w16)) (λ count. passes_repeat dep_at next_before passes_dep count None)

passes_place_after_tag : (tag : ℕ) → Passes (place_after_tag tag)
unfolding place_after_tag
passes_place_after_tag zero = passes_give Start
passes_place_after_tag (suc zero) = passes_then id_at _ passes_id (λ id. passes_give (After id))
passes_place_after_tag (suc (suc tag)) = passes_fail BadTag (λ e. cc)

passes_place : Passes place_at
unfolding place_at
passes_place = passes_then (or_fail Short byte_at) _ (passes_there byte_at) passes_place_after_tag

passes_insert : (room : ℕ) → Passes (insert_at room)
unfolding insert_at
passes_insert room =
    passes_then place_at _ passes_place (λ after. passes_then (text_at Short BadUtf8 w32) _ (passes_text w32)
    (λ text. passes_test (leb 1 (length text)) EmptyRun _ (λ e. cc) (passes_test (leb (length text) room) Limit (give (Insert after text)) (λ e. cc) (passes_give (Insert after text)))))

passes_delete : (room : ℕ) → Passes (delete_at room)
unfolding delete_at
passes_delete room = passes_test (leb 1 room) Limit _ (λ e. cc) (passes_then id_at _ passes_id (λ target. passes_give (Delete target)))

passes_delete_run : (runs : Bool) (room : ℕ) → Passes (delete_run_at runs room)
unfolding delete_run_at
passes_delete_run runs room =
    passes_test runs BadTag _ (λ e. cc) (passes_then id_at _ passes_id (λ first. passes_then (or_fail Short (number_at w32)) _ (passes_there (number_at w32))
    (λ count. passes_test (leb 2 count) EmptyRun _ (λ e. cc) (passes_test (leb count room) Limit _ (λ e. cc)
    (passes_test (leb (first.counter + count) 281474976710656) Limit (give (DeleteRun first count)) (λ e. cc) (passes_give (DeleteRun first count)))))))

passes_record_after_tag : (runs : Bool) (room tag : ℕ) → Passes (record_after_tag runs room tag)
unfolding record_after_tag
passes_record_after_tag runs room zero = passes_fail BadTag (λ e. cc)
passes_record_after_tag runs room (suc zero) = passes_insert room
passes_record_after_tag runs room (suc (suc zero)) = passes_delete room
passes_record_after_tag runs room (suc (suc (suc zero))) = passes_delete_run runs room
passes_record_after_tag runs room (suc (suc (suc (suc tag)))) = passes_fail BadTag (λ e. cc)

passes_record : (runs : Bool) (room : ℕ) → Passes (record_at runs room)
unfolding record_at
passes_record runs room = passes_then (or_fail Short byte_at) _ (passes_there byte_at) (passes_record_after_tag runs room)

passes_records : (runs : Bool) (room : ℕ) → Passes (records_at runs room)
unfolding records_at
passes_records runs room =
    passes_then (or_fail Short (number_at w32)) _ (passes_there (number_at w32))
    (λ count. passes_test (leb 1 count) NoRecords _ (λ e. cc) (passes_test (leb count 65536) Limit _ (λ e. cc) (passes_repeat (record_at runs) room_after (passes_record runs) count room)))

passes_parts : (runs : Bool) → Passes (parts_at runs)
unfolding parts_at
passes_parts runs =
    passes_then actor_at _ passes_actor (λ actor.
    passes_then seq_at _ passes_seq (λ seq.
    passes_then start_at _ passes_start (λ start.
    passes_then (or_fail Short (number_at w64)) _ (passes_there (number_at w64)) (λ time.
    passes_then (text_at Short BadUtf8 w16) _ (passes_text w16) (λ message.
    passes_then deps_at _ passes_deps (λ deps.
    passes_then (records_at runs (room_from start)) _ (passes_records runs (room_from start)) (λ records. passes_give _)))))))

passes_version : Passes version_at
unfolding version_at
passes_version = passes_then (or_fail Short byte_at) _ (passes_there byte_at) (λ v. passes_test (eqb v 1 || eqb v 2) Version (give v) (λ e. cc) (passes_give v))

passes_sized : (size : ℕ) → Passes (sized_at size)
unfolding sized_at
passes_sized size =
    passes_then version_at _ passes_version (λ v. passes_test (leb size 4194304) Limit _ (λ e. cc)
    (passes_then (parts_at (eqb v 2)) _ (passes_parts (eqb v 2)) (λ c. passes_give (v, c))))

-- ---- what it says of the whole

-- parts that were read under a version that isn't theirs: the version is 2, and theirs 1
other_version_is : (v : ℕ) (c : ChangeParts) → (eqb v 1 || eqb v 2) ≡ true → FitsParts (eqb v 2) c → eqb v (version_of c.records) ≡ false → (v ≡ 2) × (version_of c.records ≡ 1)
other_version_is v c fit parts apart =
    elim (or_cases (eqb v 1) (eqb v 2) fit) [
      | inl one ↦
          let v-is : v ≡ 1 = eqb-true v 1 one in
          let first : FitsParts false c = rw v-is at parts in
          let theirs : version_of c.records ≡ 1 = ap (λ b. cond b 2 1) (none_is_run (room_from c.start) c.records first.records.each) in
          let wrong : eqb v (version_of c.records) ≡ true = rw (v-is, theirs) refl in
          absurd cc
      | inr two ↦
          let v-is : v ≡ 2 = eqb-true v 2 two in
          (v-is, theirs_is (has_run c.records) (rw v-is at apart))
    ]
  where
    theirs_is : (b : Bool) → eqb 2 (cond b 2 1) ≡ false → ◌≡◌ {A = ℕ} (cond b 2 1) 1
    theirs_is true h = absurd cc
    theirs_is false h = refl

-- the spelling of a change without a run
version_1 : (c : ChangeParts) → version_of c.records ≡ 1 → spelling c ≡ 1 ∷ spelling_of_parts c
unfolding spelling
version_1 c h = ap (λ (v : ℕ). v ∷ spelling_of_parts c) h

-- Bytes that are refused so are a change without a run, but for the version.
pub no_run_is : (bytes : List ℕ) → AreBytes bytes → change_at bytes ≡ Err NoRun → IsVersion2WithoutRun bytes
unfolding change_at
no_run_is bytes fits r =
    elim (ended_err (sized_at (length bytes) bytes) NoRun r) [
      | met bad ↦ absurd (passes_sized (length bytes) bytes bad)
      | follows x rest read some late ↦ absurd cc
      | other_version x read apart late ↦
          let t = (sized_field (length bytes)).takes bytes x [] fits read in
          let v = other_version_is x.0 x.1 t.1.0 t.1.1.1 apart in
          let whole : bytes ≡ 2 ∷ spelling_of_parts x.1 = t.0 ∙ append-nil (spelling_of_versioned x) ∙ ap (λ (n : ℕ). n ∷ spelling_of_parts x.1) v.0 in
          let spelled : spelling x.1 ≡ 1 ∷ spelling_of_parts x.1 = version_1 x.1 v.1 in
          let small : length bytes ≤ 4194304 = leb-true (length bytes) 4194304 t.1.1.0 in
          let size : length (spelling x.1) ≤ 4194304 = rw spelled (rw whole at small) in
          (spelling_of_parts x.1, whole, (x.1, parts_are (eqb x.0 2) x.1 t.1.1.1 size, sym spelled))
    ]

same_list : (x y : ℕ) (xs ys : List ℕ) → x ∷ xs ≡ y ∷ ys → (x ≡ y) × (xs ≡ ys)
same_list x y xs ys e = (cc, cc)

spelled_as : (c : ChangeParts) (rest : List ℕ) → 1 ∷ rest ≡ spelling c → (1 ≡ version_of c.records) × (rest ≡ spelling_of_parts c)
unfolding spelling
spelled_as c rest e = same_list 1 (version_of c.records) rest (spelling_of_parts c) e

-- And such bytes are refused so.
pub no_run_again : (bytes : List ℕ) → IsVersion2WithoutRun bytes → change_at bytes ≡ Err NoRun
unfolding change_at
no_run_again bytes w =
    let c = w.2.0 in
    let s = spelled_as c w.0 w.2.2 in
    let len : length bytes ≡ length (spelling c) = ap length w.1 ∙ ap length w.2.2 in
    let small : length bytes ≤ 4194304 = rw len w.2.1.size in
    let n = length bytes in
    let whole : bytes ≡ spelling_of_versioned (2, c) ++ [] = w.1 ∙ ap (λ (b : List ℕ). 2 ∷ b) s.1 ∙ sym (append-nil (spelling_of_versioned (2, c))) in
    let read : sized_at n (spelling_of_versioned (2, c) ++ []) ≡ Ok ((2, c), []) = (sized_field n).again (2, c) [] (refl, (le-leb n 4194304 small, parts_fit true c (λ _. refl) w.2.1)) in
    let apart : eqb 2 (version_of c.records) ≡ false = ap (λ (v : ℕ). eqb 2 v) (sym s.0) in
    ended_of_all (sized_at n bytes) (2, c) (ap (sized_at n) whole ∙ read) ∙ versioned_apart (2, c) apart
