-- Spellings of changes, records and journals are bytes.
use Rattle.std.proofs.Common.{ℕ, zero, suc, ◌<◌, true, false, inl, inr, refl, List, [], ◌∷◌, ◌++◌, length, arith}
use Rattle.std.specs.Prelude.{encode_utf8_all, if◌then◌else◌}
use Rattle.std.specs.Int.{w16, w32, w64, to_be_bytes}
use Rattle.std.specs.List.{flat_map, AllByRecursion}
use Rattle.tp_codec.proofs.Fields.{AreBytes, AreBytes-cons, AreBytes-append, AreBytes-encodes}
use Rattle.tp_opid.specs.declared.doc_id.DocId.{DocId}
use Rattle.tp_opid.specs.declared.hash.Hash.{Hash}
use Rattle.tp_opid.specs.declared.op_id.OpId.{OpId}
use Rattle.tp_opid.specs.declared.op_id.Place.{Place}
use Rattle.tp_opid.specs.declared.op_id.Place.TheVariants.{Start, After}
use Rattle.tp_layout.specs.declared.parts.ChangeParts.{ChangeParts}
use Rattle.tp_layout.specs.declared.record.Record.{Record}
use Rattle.tp_layout.specs.declared.record.Record.TheVariants.{Insert, Delete, DeleteRun}
use Rattle.tp_change.specs.ChangeHash.{hash_of}
use Rattle.tp_layout.specs.Limits.{IsHash, IsId, IsPlace, IsText, IsRecord, IsChange, AllChanges}
use Rattle.tp_layout.specs.Spelling.{spelling_of_id, spelling_of_place, spelling_of_run, spelling_of_message, spelling_of_record, spelling_of_deps, spelling_of_records, has_run, version_of, spelling}
use Rattle.tp_change.proofs.HashLaws.{hash_of_is}
use Rattle.tp_recovery.specs.declared.layout.TheConstants.{MAGIC}
use Rattle.tp_recovery.specs.Layout.{IsDocId, header_of, record_of, bytes_of_records, journal}

none_are : AreBytes []
none_are i = omega arith

number16 : (n : ℕ) → AreBytes (to_be_bytes w16 n)
number16 n zero = omega arith
number16 n (suc zero) = omega arith
number16 n (suc (suc i)) = omega arith

number32 : (n : ℕ) → AreBytes (to_be_bytes w32 n)
number32 n zero = omega arith
number32 n (suc zero) = omega arith
number32 n (suc (suc zero)) = omega arith
number32 n (suc (suc (suc zero))) = omega arith
number32 n (suc (suc (suc (suc i)))) = omega arith

number64 : (n : ℕ) → AreBytes (to_be_bytes w64 n)
number64 n zero = omega arith
number64 n (suc zero) = omega arith
number64 n (suc (suc zero)) = omega arith
number64 n (suc (suc (suc zero))) = omega arith
number64 n (suc (suc (suc (suc zero)))) = omega arith
number64 n (suc (suc (suc (suc (suc zero))))) = omega arith
number64 n (suc (suc (suc (suc (suc (suc zero)))))) = omega arith
number64 n (suc (suc (suc (suc (suc (suc (suc zero))))))) = omega arith
number64 n (suc (suc (suc (suc (suc (suc (suc (suc i)))))))) = omega arith

-- lists one after another
each_are : {X : Type 0} (f : X → List ℕ) (Fits : X → Type 0) → ((x : X) → Fits x → AreBytes (f x)) → (xs : List X) → AllByRecursion Fits xs → AreBytes (flat_map f xs)
each_are f Fits are [] all = none_are
each_are f Fits are (x ∷ xs) all = AreBytes-append (f x) (flat_map f xs) (are x all.0) (each_are f Fits are xs all.1)

id_is : (id : OpId) → IsId id → AreBytes (spelling_of_id id)
id_is id is = AreBytes-append (to_be_bytes w64 id.counter) id.actor.0 (number64 id.counter) is.actor.each

place_is : (place : Place) → IsPlace place → AreBytes (spelling_of_place place)
place_is Start is = AreBytes-cons 0 [] (omega arith) none_are
place_is (After id) is = AreBytes-cons 1 (spelling_of_id id) (omega arith) (id_is id is)

run_is : (limit : ℕ) (text : List ℕ) → IsText limit text → AreBytes (spelling_of_run text)
run_is limit text is =
    AreBytes-append (to_be_bytes w32 (length (encode_utf8_all text))) (encode_utf8_all text) (number32 (length (encode_utf8_all text))) (AreBytes-encodes text is.scalars)

message_is : (limit : ℕ) (text : List ℕ) → IsText limit text → AreBytes (spelling_of_message text)
message_is limit text is =
    AreBytes-append (to_be_bytes w16 (length (encode_utf8_all text))) (encode_utf8_all text) (number16 (length (encode_utf8_all text))) (AreBytes-encodes text is.scalars)

entry_is : (r : Record) → IsRecord r → AreBytes (spelling_of_record r)
entry_is (Insert after text) is =
    AreBytes-cons 1 (spelling_of_place after ++ spelling_of_run text) (omega arith)
    (AreBytes-append (spelling_of_place after) (spelling_of_run text) (place_is after is.0) (run_is 4194304 text is.1))
entry_is (Delete target) is = AreBytes-cons 2 (spelling_of_id target) (omega arith) (id_is target is)
entry_is (DeleteRun first count) is =
    AreBytes-cons 3 (spelling_of_id first ++ to_be_bytes w32 count) (omega arith)
    (AreBytes-append (spelling_of_id first) (to_be_bytes w32 count) (id_is first is.0) (number32 count))

version_is : (rs : List Record) → version_of rs < 256
version_is rs = elim (has_run rs) as (λ b. (if b then 2 else 1) < 256) [ true ↦ omega arith | false ↦ omega arith ]

deps_are : (deps : List Hash) → AllByRecursion IsHash deps → AreBytes (spelling_of_deps deps)
deps_are deps all =
    AreBytes-append (to_be_bytes w16 (length deps)) (flat_map (λ (h : Hash). h.0) deps) (number16 (length deps))
    (each_are (λ (h : Hash). h.0) IsHash (λ h is. is.each) deps all)

entries_are : (records : List Record) → AllByRecursion IsRecord records → AreBytes (spelling_of_records records)
entries_are records all =
    AreBytes-append (to_be_bytes w32 (length records)) (flat_map spelling_of_record records) (number32 (length records))
    (each_are spelling_of_record IsRecord entry_is records all)

spelling_is : (c : ChangeParts) → IsChange c → AreBytes (spelling c)
unfolding spelling
spelling_is c is =
    let records = spelling_of_records c.records in
    let deps = spelling_of_deps c.deps ++ records in
    let message = spelling_of_message c.message ++ deps in
    let time = to_be_bytes w64 c.time ++ message in
    let start = to_be_bytes w64 c.start ++ time in
    let seq = to_be_bytes w64 c.seq ++ start in
    AreBytes-cons (version_of c.records) (c.actor.0 ++ seq) (version_is c.records)
    (AreBytes-append c.actor.0 seq is.actor.each
    (AreBytes-append (to_be_bytes w64 c.seq) start (number64 c.seq)
    (AreBytes-append (to_be_bytes w64 c.start) time (number64 c.start)
    (AreBytes-append (to_be_bytes w64 c.time) message (number64 c.time)
    (AreBytes-append (spelling_of_message c.message) deps (message_is 65535 c.message is.message)
    (AreBytes-append (spelling_of_deps c.deps) records (deps_are c.deps is.deps) (entries_are c.records is.records)))))))

record_is : (c : ChangeParts) → IsChange c → AreBytes (record_of c)
unfolding record_of
record_is c is =
    AreBytes-append (to_be_bytes w32 (length (spelling c))) (spelling c ++ (hash_of c).0) (number32 (length (spelling c)))
    (AreBytes-append (spelling c) (hash_of c).0 (spelling_is c is) (hash_of_is c).each)

records_are : (C : List ChangeParts) → AllChanges C → AreBytes (bytes_of_records C)
records_are [] limits = none_are
records_are (c ∷ C) limits = AreBytes-append (record_of c) (bytes_of_records C) (record_is c (limits c (inl refl))) (records_are C (λ d i. limits d (inr i)))

magic_is : AreBytes MAGIC
magic_is zero = omega arith
magic_is (suc zero) = omega arith
magic_is (suc (suc zero)) = omega arith
magic_is (suc (suc (suc zero))) = omega arith
magic_is (suc (suc (suc (suc zero)))) = omega arith
magic_is (suc (suc (suc (suc (suc zero))))) = omega arith
magic_is (suc (suc (suc (suc (suc (suc zero)))))) = omega arith
magic_is (suc (suc (suc (suc (suc (suc (suc zero))))))) = omega arith
magic_is (suc (suc (suc (suc (suc (suc (suc (suc i)))))))) = omega arith

-- a journal is bytes
pub journal_is : (id : DocId) (C : List ChangeParts) → IsDocId id → AllChanges C → AreBytes (journal id C)
journal_is id C is limits =
    AreBytes-append (header_of id) (bytes_of_records C) (AreBytes-append MAGIC id.0 magic_is is.each) (records_are C limits)
