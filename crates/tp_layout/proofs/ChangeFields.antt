-- The fields of a change: what is read is spelled so, what is spelled is read again, and a fault stays.
use Rattle.std.proofs.Common.{◌≡◌, ℕ, zero, suc, ◌+◌, ◌^◌, ◌<◌, ◌≤◌, Bool, true, ◌||◌, eqb, ltb, leb, List, [], ◌∷◌, ◌++◌, length, Option, Some, None, refl, sym, ap, ◌∙◌, append-nil, arith, inl, inr, eqb-true, ltb-true, lt-ltb, le-leb, leb-true}
use Rattle.std.specs.Int.{w16, w32, w64, to_be_bytes}
use Rattle.std.specs.List.{flat_map, AllByRecursion}
use Rattle.std.specs.Ordering.{is_lt}
use Rattle.tp_list.specs.Rising.{IsRising, IsBelowAll}
use Rattle.tp_list.proofs.Tests.{or_cases}
use Rattle.tp_list.proofs.RisingLaws.{less_of, IsBelowAll-trans}
use Rattle.tp_opid.specs.declared.actor.Actor.{Actor}
use Rattle.tp_opid.specs.declared.hash.Hash.{Hash}
use Rattle.tp_opid.specs.declared.op_id.OpId.{OpId}
use Rattle.tp_opid.specs.declared.op_id.Place.{Place}
use Rattle.tp_opid.specs.declared.op_id.Place.TheVariants.{Start, After}
use Rattle.tp_opid.specs.Order.{hash_cmp}
use Rattle.tp_opid.proofs.Orders.{hash_total}
use Rattle.tp_codec.specs.Prefix.{byte_at, bytes_at, number_at}
use Rattle.tp_codec.specs.Reading.{Reads, give, fail, and_then, or_fail, require, repeat_at, text_at}
use Rattle.tp_codec.proofs.Fields.{IsField, as_field, give_field, fail_field, then_field, require_field, byte_field, bytes_field, AreSoMany, number_field, text_field, FitsText, repeat_field, EachFits, wide16, wide32, wide64}
use Rattle.tp_layout.specs.declared.error.ChangeError.{ChangeError}
use Rattle.tp_layout.specs.declared.error.ChangeError.TheVariants.{Version, Short, ZeroSeqOrStart, BadUtf8, DepsOrder, NoRecords, BadTag, EmptyRun, Limit}
use Rattle.tp_layout.specs.declared.record.Record.{Record}
use Rattle.tp_layout.specs.declared.record.Record.TheVariants.{Insert, Delete, DeleteRun}
use Rattle.tp_layout.specs.declared.parts.ChangeParts.{ChangeParts}
use Rattle.tp_layout.specs.Spelling.{spelling_of_id, spelling_of_place, spelling_of_run, spelling_of_message, spelling_of_record, spelling_of_deps, spelling_of_records}
use Rattle.tp_list.specs.Bytes.{IsBytes}
use Rattle.tp_layout.specs.Limits.{IsActor, IsHash, IsId, IsPlace, IsText}
use Rattle.tp_layout.specs.Reading.{version_at, actor_at, hash_at, id_at, seq_at, start_at, rises, dep_at, next_before, deps_at, place_after_tag, place_at, insert_at, delete_at, delete_run_at, record_after_tag, record_at, room_after, records_at, room_from, parts_at}

bytes_are : (n : ℕ) (bytes : List ℕ) → AreSoMany n bytes → IsBytes n bytes
bytes_are n bytes h = record { count = h.count; each = h.each }

are_bytes : (n : ℕ) (bytes : List ℕ) → IsBytes n bytes → AreSoMany n bytes
are_bytes n bytes h = record { count = h.count; each = h.each }

-- ---- fixed fields

-- the number is a version
abbrev pub FitsVersion : ℕ → Type 0
FitsVersion v = (eqb v 1 || eqb v 2) ≡ true

version_below : (v : ℕ) → FitsVersion v → v < 256
version_below v fit =
    elim (or_cases (eqb v 1) (eqb v 2) fit) [
      | inl one ↦ let e : v ≡ 1 = eqb-true v 1 one in omega arith
      | inr two ↦ let e : v ≡ 2 = eqb-true v 2 two in omega arith
    ]

pub version_field : IsField Short version_at (λ v. v ∷ []) FitsVersion
unfolding version_at
version_field =
    as_field Short version_at (λ v. (v ∷ []) ++ []) (λ v. v ∷ []) (λ v. (v < 256) × (FitsVersion v × (v ≡ v))) FitsVersion
    (then_field Short (or_fail Short byte_at) (λ v. and_then (require (eqb v 1 || eqb v 2) Version) (λ _. give v)) (λ b. b ∷ []) (λ b. b < 256) (λ (v : ℕ). v) (λ _. []) (λ v x. FitsVersion v × (x ≡ v))
    (byte_field Short)
    (λ v lt. require_field Short (eqb v 1 || eqb v 2) Version (give v) (λ _. []) (λ x. x ≡ v) (λ _. give_field Short v))
    (λ v x fit. fit.1))
    (λ v fit. refl) (λ v fit. fit.1.0) (λ v fit. (version_below v fit, (fit, refl)))

pub actor_field : IsField Short actor_at (λ a. a.0) IsActor
unfolding actor_at
actor_field =
    as_field Short actor_at (λ (a : Actor). a.0 ++ []) (λ a. a.0) (λ a. AreSoMany 16 a.0 × (a ≡ record { 0 = a.0 })) IsActor
    (then_field Short (or_fail Short (bytes_at 16)) (λ bytes. give (record { 0 = bytes })) (λ b. b) (AreSoMany 16) (λ (a : Actor). a.0) (λ _. []) (λ bytes a. a ≡ record { 0 = bytes })
    (bytes_field Short 16)
    (λ bytes fit. give_field Short (record { 0 = bytes }))
    (λ bytes a e. ap (λ (x : Actor). x.0) e))
    (λ a fit. append-nil a.0) (λ a fit. bytes_are 16 a.0 fit.0) (λ a fit. (are_bytes 16 a.0 fit, refl))

pub hash_field : IsField Short hash_at (λ h. h.0) IsHash
unfolding hash_at
hash_field =
    as_field Short hash_at (λ (h : Hash). h.0 ++ []) (λ h. h.0) (λ h. AreSoMany 32 h.0 × (h ≡ record { 0 = h.0 })) IsHash
    (then_field Short (or_fail Short (bytes_at 32)) (λ bytes. give (record { 0 = bytes })) (λ b. b) (AreSoMany 32) (λ (h : Hash). h.0) (λ _. []) (λ bytes h. h ≡ record { 0 = bytes })
    (bytes_field Short 32)
    (λ bytes fit. give_field Short (record { 0 = bytes }))
    (λ bytes h e. ap (λ (x : Hash). x.0) e))
    (λ h fit. append-nil h.0) (λ h fit. bytes_are 32 h.0 fit.0) (λ h fit. (are_bytes 32 h.0 fit, refl))

pub id_field : IsField Short id_at spelling_of_id IsId
unfolding id_at
id_field =
    as_field Short id_at (λ (i : OpId). to_be_bytes w64 i.counter ++ (i.actor.0 ++ [])) spelling_of_id (λ i. (i.counter < 2 ^ 64) × (IsActor i.actor × (i ≡ record { counter = i.counter; actor = i.actor }))) IsId
    (then_field Short (or_fail Short (number_at w64)) (λ counter. and_then actor_at (λ actor. give (record { counter = counter; actor = actor }))) (to_be_bytes w64) (λ n. n < 2 ^ 64)
    (λ (i : OpId). i.counter) (λ i. i.actor.0 ++ []) (λ counter i. IsActor i.actor × (i ≡ record { counter = counter; actor = i.actor }))
    (number_field Short w64 (2 ^ 64) wide64)
    (λ counter lt. then_field Short actor_at (λ actor. give (record { counter = counter; actor = actor })) (λ a. a.0) IsActor
    (λ (i : OpId). i.actor) (λ _. []) (λ actor i. i ≡ record { counter = counter; actor = actor })
    actor_field (λ actor fit. give_field Short (record { counter = counter; actor = actor })) (λ actor i e. ap (λ (x : OpId). x.actor) e))
    (λ counter i fit. ap (λ (x : OpId). x.counter) fit.1))
    (λ i fit. ap (λ (b : List ℕ). to_be_bytes w64 i.counter ++ b) (append-nil i.actor.0))
    (λ i fit. record { counter = fit.0; actor = fit.1.0 })
    (λ i fit. (fit.counter, (fit.actor, refl)))

pub seq_field : IsField Short seq_at (to_be_bytes w64) (λ n. (1 ≤ n) × (n < 2 ^ 64))
unfolding seq_at
seq_field =
    as_field Short seq_at (λ n. to_be_bytes w64 n ++ []) (to_be_bytes w64) (λ n. (n < 2 ^ 64) × ((leb 1 n ≡ true) × (n ≡ n))) (λ n. (1 ≤ n) × (n < 2 ^ 64))
    (then_field Short (or_fail Short (number_at w64)) (λ n. and_then (require (leb 1 n) ZeroSeqOrStart) (λ _. give n)) (to_be_bytes w64) (λ n. n < 2 ^ 64)
    (λ (n : ℕ). n) (λ _. []) (λ n m. (leb 1 n ≡ true) × (m ≡ n))
    (number_field Short w64 (2 ^ 64) wide64)
    (λ n lt. require_field Short (leb 1 n) ZeroSeqOrStart (give n) (λ _. []) (λ m. m ≡ n) (λ _. give_field Short n))
    (λ n m fit. fit.1))
    (λ n fit. append-nil (to_be_bytes w64 n)) (λ n fit. (leb-true 1 n fit.1.0, fit.0)) (λ n fit. (fit.1, (le-leb 1 n fit.0, refl)))

pub start_field : IsField Short start_at (to_be_bytes w64) (λ n. (1 ≤ n) × (n < 2 ^ 48))
unfolding start_at
start_field =
    as_field Short start_at (λ n. to_be_bytes w64 n ++ []) (to_be_bytes w64) (λ n. (n < 2 ^ 64) × ((leb 1 n ≡ true) × ((ltb n (2 ^ 48) ≡ true) × (n ≡ n)))) (λ n. (1 ≤ n) × (n < 2 ^ 48))
    (then_field Short (or_fail Short (number_at w64)) (λ n. and_then (require (leb 1 n) ZeroSeqOrStart) (λ _. and_then (require (ltb n (2 ^ 48)) Limit) (λ _. give n))) (to_be_bytes w64) (λ n. n < 2 ^ 64)
    (λ (n : ℕ). n) (λ _. []) (λ n m. (leb 1 n ≡ true) × ((ltb n (2 ^ 48) ≡ true) × (m ≡ n)))
    (number_field Short w64 (2 ^ 64) wide64)
    (λ n lt. require_field Short (leb 1 n) ZeroSeqOrStart (and_then (require (ltb n (2 ^ 48)) Limit) (λ _. give n)) (λ _. []) (λ m. (ltb n (2 ^ 48) ≡ true) × (m ≡ n))
    (λ _. require_field Short (ltb n (2 ^ 48)) Limit (give n) (λ _. []) (λ m. m ≡ n) (λ _. give_field Short n)))
    (λ n m fit. fit.1.1))
    (λ n fit. append-nil (to_be_bytes w64 n)) (λ n fit. (leb-true 1 n fit.1.0, ltb-true n (2 ^ 48) fit.1.1.0)) (λ n fit. (omega (arith, fit.1), (le-leb 1 n fit.0, (lt-ltb n (2 ^ 48) fit.1, refl))))

-- ---- texts

text_below : (limit : ℕ) (text : List ℕ) → FitsText (suc limit) text → IsText limit text
text_below limit text fit = record { scalars = fit.scalars; bytes = omega (arith, fit.bytes) }

text_within : (limit : ℕ) (text : List ℕ) → IsText limit text → FitsText (suc limit) text
text_within limit text fit = record { scalars = fit.scalars; bytes = omega (arith, fit.bytes) }

pub message_field : IsField Short (text_at Short BadUtf8 w16) spelling_of_message (IsText 65535)
message_field =
    as_field Short (text_at Short BadUtf8 w16) spelling_of_message spelling_of_message (FitsText (2 ^ 16)) (IsText 65535) (text_field Short BadUtf8 w16 (2 ^ 16) wide16)
    (λ text fit. refl) (text_below 65535) (text_within 65535)

pub run_field : IsField Short (text_at Short BadUtf8 w32) spelling_of_run (FitsText (2 ^ 32))
run_field = text_field Short BadUtf8 w32 (2 ^ 32) wide32

-- ---- dependencies

pub dep_field : (before : Option Hash) → IsField Short (dep_at before) (λ h. h.0) (λ h. IsHash h × (rises before h ≡ true))
unfolding dep_at
dep_field before =
    as_field Short (dep_at before) (λ (h : Hash). h.0 ++ []) (λ h. h.0) (λ h. IsHash h × ((rises before h ≡ true) × (h ≡ h))) (λ h. IsHash h × (rises before h ≡ true))
    (then_field Short hash_at (λ h. and_then (require (rises before h) DepsOrder) (λ _. give h)) (λ h. h.0) IsHash
    (λ (h : Hash). h) (λ _. []) (λ h g. (rises before h ≡ true) × (g ≡ h))
    hash_field
    (λ h fit. require_field Short (rises before h) DepsOrder (give h) (λ _. []) (λ g. g ≡ h) (λ _. give_field Short h))
    (λ h g fit. fit.1))
    (λ h fit. append-nil h.0) (λ h fit. (fit.0, fit.1.0)) (λ h fit. (fit.0, (fit.1, refl)))

abbrev pub DepFits : Option Hash → Hash → Type 0
DepFits before h = IsHash h × (rises before h ≡ true)

rising_after : (before : Hash) (deps : List Hash) → EachFits DepFits next_before (Some before) deps → IsBelowAll hash_cmp before deps × IsRising hash_cmp deps
rising_after before [] fit = (tt, tt)
rising_after before (h ∷ deps) fit =
    let rest = rising_after h deps fit.1 in
    let lt = less_of (hash_cmp before h) fit.0.1 in
    ((lt, IsBelowAll-trans hash_cmp hash_total before h deps lt rest.0), rest)

pub rising_all : (deps : List Hash) → EachFits DepFits next_before None deps → IsRising hash_cmp deps
rising_all [] fit = tt
rising_all (h ∷ deps) fit = rising_after h deps fit.1

pub hashes_all : (before : Option Hash) (deps : List Hash) → EachFits DepFits next_before before deps → AllByRecursion IsHash deps
hashes_all before [] fit = tt
hashes_all before (h ∷ deps) fit = (fit.0.0, hashes_all (Some h) deps fit.1)

fit_after : (before : Hash) (deps : List Hash) → AllByRecursion IsHash deps → IsBelowAll hash_cmp before deps → IsRising hash_cmp deps → EachFits DepFits next_before (Some before) deps
fit_after before [] hashes below rise = tt
fit_after before (h ∷ deps) hashes below rise = ((hashes.0, ap is_lt below.0), fit_after h deps hashes.1 rise.0 rise.1)

pub fit_all : (deps : List Hash) → AllByRecursion IsHash deps → IsRising hash_cmp deps → EachFits DepFits next_before None deps
fit_all [] hashes rise = tt
fit_all (h ∷ deps) hashes rise = ((hashes.0, refl), fit_after h deps hashes.1 rise.0 rise.1)

pub record FitsDeps (deps : List Hash) : Type 0 where
  pub hashes : AllByRecursion IsHash deps
  pub rise : IsRising hash_cmp deps
  pub count : length deps ≤ 65535

pub deps_field : IsField Short deps_at spelling_of_deps FitsDeps
unfolding deps_at
deps_field =
    as_field Short deps_at spelling_of_deps spelling_of_deps (λ deps. (length deps < 2 ^ 16) × ((length deps ≡ length deps) × EachFits DepFits next_before None deps)) FitsDeps
    (then_field Short (or_fail Short (number_at w16)) (λ count. repeat_at dep_at next_before count None) (to_be_bytes w16) (λ n. n < 2 ^ 16)
    (λ (deps : List Hash). length deps) (flat_map (λ (h : Hash). h.0)) (λ count deps. (length deps ≡ count) × EachFits DepFits next_before None deps)
    (number_field Short w16 (2 ^ 16) wide16)
    (λ count lt. repeat_field Short dep_at next_before (λ h. h.0) DepFits dep_field count None)
    (λ count deps fit. fit.0))
    (λ deps fit. refl)
    (λ deps fit. record { hashes = hashes_all None deps fit.1.1; rise = rising_all deps fit.1.1; count = omega (arith, fit.0) })
    (λ deps fit. (omega (arith, fit.count), (refl, fit_all deps fit.hashes fit.rise)))

-- ---- references

no_id : OpId
no_id = record { counter = 0; actor = record { 0 = [] } }

abbrev tag_of_place : Place → ℕ
tag_of_place Start = 0
tag_of_place (After id) = 1

abbrev body_of_place : Place → List ℕ
body_of_place Start = []
body_of_place (After id) = spelling_of_id id

abbrev id_in : Place → OpId
id_in Start = no_id
id_in (After id) = id

abbrev PlaceFits : ℕ → Place → Type 0
PlaceFits tag p = (tag_of_place p ≡ tag) × IsPlace p

start_field_is : IsField Short (give Start) body_of_place (PlaceFits 0)
start_field_is =
    as_field Short (give Start) (λ _. []) body_of_place (λ p. p ≡ Start) (PlaceFits 0) (give_field Short Start)
    (λ p e. ap body_of_place (sym e)) (λ p e. rw e (refl, tt)) no_tag
  where
    no_tag : (p : Place) → PlaceFits 0 p → p ≡ Start
    no_tag Start fit = refl
    no_tag (After id) fit = absurd (let e : 1 ≡ 0 = fit.0 in omega arith)

after_field_is : IsField Short (and_then id_at (λ id. give (After id))) body_of_place (PlaceFits 1)
after_field_is =
    as_field Short (and_then id_at (λ id. give (After id))) (λ p. spelling_of_id (id_in p) ++ []) body_of_place (λ p. IsId (id_in p) × (p ≡ After (id_in p))) (PlaceFits 1)
    (then_field Short id_at (λ id. give (After id)) spelling_of_id IsId id_in (λ _. []) (λ id p. p ≡ After id)
    id_field (λ id fit. give_field Short (After id)) (λ id p e. ap id_in e))
    (λ p fit. append-nil (spelling_of_id (id_in p)) ∙ ap body_of_place (sym fit.1))
    (λ p fit. rw fit.1 (refl, fit.0)) of_tag
  where
    of_tag : (p : Place) → PlaceFits 1 p → IsId (id_in p) × (p ≡ After (id_in p))
    of_tag Start fit = absurd (let e : 0 ≡ 1 = fit.0 in omega arith)
    of_tag (After id) fit = (fit.1, refl)

no_place : (tag : ℕ) (p : Place) → PlaceFits (suc (suc tag)) p → ⊥
no_place tag Start fit = let e : 0 ≡ suc (suc tag) = fit.0 in omega arith
no_place tag (After id) fit = let e : 1 ≡ suc (suc tag) = fit.0 in omega arith

place_after_tag_field : (tag : ℕ) → IsField Short (place_after_tag tag) body_of_place (PlaceFits tag)
unfolding place_after_tag
place_after_tag_field zero = start_field_is
place_after_tag_field (suc zero) = after_field_is
place_after_tag_field (suc (suc tag)) =
    as_field Short (fail BadTag) body_of_place body_of_place (λ _. ⊥) (PlaceFits (suc (suc tag))) (fail_field Short BadTag body_of_place) (λ p fit. refl) (λ p no. absurd no) (no_place tag)

place_spelled : (p : Place) → (tag_of_place p ∷ []) ++ body_of_place p ≡ spelling_of_place p
place_spelled Start = refl
place_spelled (After id) = refl

place_tag_below : (p : Place) → tag_of_place p < 256
place_tag_below Start = omega arith
place_tag_below (After id) = omega arith

pub place_field : IsField Short place_at spelling_of_place IsPlace
unfolding place_at
place_field =
    as_field Short place_at (λ p. (tag_of_place p ∷ []) ++ body_of_place p) spelling_of_place (λ p. (tag_of_place p < 256) × PlaceFits (tag_of_place p) p) IsPlace
    (then_field Short (or_fail Short byte_at) place_after_tag (λ b. b ∷ []) (λ b. b < 256) tag_of_place body_of_place PlaceFits
    (byte_field Short) (λ tag lt. place_after_tag_field tag) (λ tag p fit. fit.0))
    (λ p fit. place_spelled p) (λ p fit. fit.1.1) (λ p fit. (place_tag_below p, (refl, fit)))

-- ---- records

abbrev tag_of_record : Record → ℕ
tag_of_record (Insert after text) = 1
tag_of_record (Delete target) = 2
tag_of_record (DeleteRun first count) = 3

abbrev body_of_record : Record → List ℕ
body_of_record (Insert after text) = spelling_of_place after ++ spelling_of_run text
body_of_record (Delete target) = spelling_of_id target
body_of_record (DeleteRun first count) = spelling_of_id first ++ to_be_bytes w32 count

-- what a record that is read has, and that its operations have room; runs is whether the version has runs of deletes
abbrev pub FitsRecord : Bool → ℕ → Record → Type 0
FitsRecord runs room (Insert after text) = IsPlace after × FitsText (2 ^ 32) text × (1 ≤ length text) × (length text ≤ room)
FitsRecord runs room (Delete target) = IsId target × (1 ≤ room)
FitsRecord runs room (DeleteRun first count) = (runs ≡ true) × IsId first × (count < 2 ^ 32) × (2 ≤ count) × (count ≤ room) × (first.counter + count ≤ 2 ^ 48)

abbrev RecordFits : Bool → ℕ → ℕ → Record → Type 0
RecordFits runs room tag r = (tag_of_record r ≡ tag) × FitsRecord runs room r

abbrev place_in : Record → Place
place_in (Insert after text) = after
place_in (Delete target) = Start
place_in (DeleteRun first count) = Start

abbrev text_in : Record → List ℕ
text_in (Insert after text) = text
text_in (Delete target) = []
text_in (DeleteRun first count) = []

abbrev target_in : Record → OpId
target_in (Insert after text) = no_id
target_in (Delete target) = target
target_in (DeleteRun first count) = first

abbrev many_in : Record → ℕ
many_in (Insert after text) = 0
many_in (Delete target) = 1
many_in (DeleteRun first count) = count

abbrev InsertFits : ℕ → Record → Type 0
InsertFits room r = IsPlace (place_in r) × (FitsText (2 ^ 32) (text_in r) × ((leb 1 (length (text_in r)) ≡ true) × ((leb (length (text_in r)) room ≡ true) × (r ≡ Insert (place_in r) (text_in r)))))

insert_fits : (runs : Bool) (room : ℕ) (r : Record) → RecordFits runs room 1 r → InsertFits room r
insert_fits runs room (Insert after text) fit = (fit.1.0, (fit.1.1, (le-leb 1 (length text) fit.1.2, (le-leb (length text) room fit.1.3, refl))))
insert_fits runs room (Delete target) fit = absurd (let e : 2 ≡ 1 = fit.0 in omega arith)
insert_fits runs room (DeleteRun first count) fit = absurd (let e : 3 ≡ 1 = fit.0 in omega arith)

insert_fitted : (runs : Bool) (room : ℕ) (r : Record) → InsertFits room r → RecordFits runs room 1 r
insert_fitted runs room r fit = rw fit.1.1.1.1 (refl, (fit.0, fit.1.0, leb-true 1 (length (text_in r)) fit.1.1.0, leb-true (length (text_in r)) room fit.1.1.1.0))

insert_field : (runs : Bool) (room : ℕ) → IsField Short (insert_at room) body_of_record (RecordFits runs room 1)
unfolding insert_at
insert_field runs room =
    as_field Short (insert_at room) (λ r. spelling_of_place (place_in r) ++ (spelling_of_run (text_in r) ++ [])) body_of_record (InsertFits room) (RecordFits runs room 1)
    (then_field Short place_at (λ after. and_then (text_at Short BadUtf8 w32) (λ text. and_then (require (leb 1 (length text)) EmptyRun) (λ _. and_then (require (leb (length text) room) Limit) (λ _. give (Insert after text))))) spelling_of_place IsPlace
    place_in (λ r. spelling_of_run (text_in r) ++ []) (λ after r. FitsText (2 ^ 32) (text_in r) × ((leb 1 (length (text_in r)) ≡ true) × ((leb (length (text_in r)) room ≡ true) × (r ≡ Insert after (text_in r)))))
    place_field
    (λ after fit. then_field Short (text_at Short BadUtf8 w32) (λ text. and_then (require (leb 1 (length text)) EmptyRun) (λ _. and_then (require (leb (length text) room) Limit) (λ _. give (Insert after text)))) spelling_of_run (FitsText (2 ^ 32))
    text_in (λ _. []) (λ text r. (leb 1 (length text) ≡ true) × ((leb (length text) room ≡ true) × (r ≡ Insert after text)))
    run_field
    (λ text fits. require_field Short (leb 1 (length text)) EmptyRun (and_then (require (leb (length text) room) Limit) (λ _. give (Insert after text))) (λ _. []) (λ r. (leb (length text) room ≡ true) × (r ≡ Insert after text))
    (λ _. require_field Short (leb (length text) room) Limit (give (Insert after text)) (λ _. []) (λ r. r ≡ Insert after text) (λ _. give_field Short (Insert after text))))
    (λ text r fits. ap text_in fits.1.1))
    (λ after r fit. ap place_in fit.1.1.1))
    (λ r fit. ap (λ (b : List ℕ). spelling_of_place (place_in r) ++ b) (append-nil (spelling_of_run (text_in r))) ∙ ap body_of_record (sym fit.1.1.1.1))
    (insert_fitted runs room) (insert_fits runs room)

abbrev DeleteFits : ℕ → Record → Type 0
DeleteFits room r = (leb 1 room ≡ true) × (IsId (target_in r) × (r ≡ Delete (target_in r)))

delete_fits : (runs : Bool) (room : ℕ) (r : Record) → RecordFits runs room 2 r → DeleteFits room r
delete_fits runs room (Insert after text) fit = absurd (let e : 1 ≡ 2 = fit.0 in omega arith)
delete_fits runs room (Delete target) fit = (le-leb 1 room fit.1.1, (fit.1.0, refl))
delete_fits runs room (DeleteRun first count) fit = absurd (let e : 3 ≡ 2 = fit.0 in omega arith)

delete_fitted : (runs : Bool) (room : ℕ) (r : Record) → DeleteFits room r → RecordFits runs room 2 r
delete_fitted runs room r fit = rw fit.1.1 (refl, (fit.1.0, leb-true 1 room fit.0))

delete_field : (runs : Bool) (room : ℕ) → IsField Short (delete_at room) body_of_record (RecordFits runs room 2)
unfolding delete_at
delete_field runs room =
    as_field Short (delete_at room) (λ r. spelling_of_id (target_in r) ++ []) body_of_record (DeleteFits room) (RecordFits runs room 2)
    (require_field Short (leb 1 room) Limit (and_then id_at (λ target. give (Delete target))) (λ r. spelling_of_id (target_in r) ++ []) (λ r. IsId (target_in r) × (r ≡ Delete (target_in r)))
    (λ _. then_field Short id_at (λ target. give (Delete target)) spelling_of_id IsId target_in (λ _. []) (λ target r. r ≡ Delete target)
    id_field (λ target fit. give_field Short (Delete target)) (λ target r e. ap target_in e)))
    (λ r fit. append-nil (spelling_of_id (target_in r)) ∙ ap body_of_record (sym fit.1.1))
    (delete_fitted runs room) (delete_fits runs room)

abbrev CountFits : ℕ → OpId → ℕ → Record → Type 0
CountFits room first count r = (leb 2 count ≡ true) × ((leb count room ≡ true) × ((leb (first.counter + count) (2 ^ 48) ≡ true) × (r ≡ DeleteRun first count)))

abbrev DeleteRunFits : Bool → ℕ → Record → Type 0
DeleteRunFits runs room r = (runs ≡ true) × (IsId (target_in r) × ((many_in r < 2 ^ 32) × CountFits room (target_in r) (many_in r) r))

delete_run_fits : (runs : Bool) (room : ℕ) (r : Record) → RecordFits runs room 3 r → DeleteRunFits runs room r
delete_run_fits runs room (Insert after text) fit = absurd (let e : 1 ≡ 3 = fit.0 in omega arith)
delete_run_fits runs room (Delete target) fit = absurd (let e : 2 ≡ 3 = fit.0 in omega arith)
delete_run_fits runs room (DeleteRun first count) fit = (fit.1.0, (fit.1.1, (fit.1.2, (le-leb 2 count fit.1.3, (le-leb count room fit.1.4, (le-leb (first.counter + count) (2 ^ 48) fit.1.5, refl))))))

delete_run_fitted : (runs : Bool) (room : ℕ) (r : Record) → DeleteRunFits runs room r → RecordFits runs room 3 r
delete_run_fitted runs room r fit =
    let counts = fit.1.1.1 in
    rw counts.1.1.1 (refl, (fit.0, fit.1.0, fit.1.1.0, leb-true 2 (many_in r) counts.0, leb-true (many_in r) room counts.1.0, leb-true ((target_in r).counter + many_in r) (2 ^ 48) counts.1.1.0))

abbrev after_count : ℕ → OpId → ℕ → Reads ChangeError Record
after_count room first count = and_then (require (leb 2 count) EmptyRun) (λ _. and_then (require (leb count room) Limit) (λ _. and_then (require (leb (first.counter + count) (2 ^ 48)) Limit) (λ _. give (DeleteRun first count))))

count_field : (room : ℕ) (first : OpId) (count : ℕ) → IsField Short (after_count room first count) (λ _. []) (CountFits room first count)
count_field room first count =
    require_field Short (leb 2 count) EmptyRun (and_then (require (leb count room) Limit) (λ _. and_then (require (leb (first.counter + count) (2 ^ 48)) Limit) (λ _. give (DeleteRun first count)))) (λ _. [])
    (λ r. (leb count room ≡ true) × ((leb (first.counter + count) (2 ^ 48) ≡ true) × (r ≡ DeleteRun first count)))
    (λ _. require_field Short (leb count room) Limit (and_then (require (leb (first.counter + count) (2 ^ 48)) Limit) (λ _. give (DeleteRun first count))) (λ _. [])
    (λ r. (leb (first.counter + count) (2 ^ 48) ≡ true) × (r ≡ DeleteRun first count))
    (λ _. require_field Short (leb (first.counter + count) (2 ^ 48)) Limit (give (DeleteRun first count)) (λ _. []) (λ r. r ≡ DeleteRun first count) (λ _. give_field Short (DeleteRun first count))))

abbrev after_first : ℕ → OpId → Reads ChangeError Record
after_first room first = and_then (or_fail Short (number_at w32)) (λ count. after_count room first count)

delete_run_field : (runs : Bool) (room : ℕ) → IsField Short (delete_run_at runs room) body_of_record (RecordFits runs room 3)
unfolding delete_run_at
delete_run_field runs room =
    as_field Short (delete_run_at runs room) (λ r. spelling_of_id (target_in r) ++ (to_be_bytes w32 (many_in r) ++ [])) body_of_record (DeleteRunFits runs room) (RecordFits runs room 3)
    (require_field Short runs BadTag (and_then id_at (λ first. after_first room first)) (λ r. spelling_of_id (target_in r) ++ (to_be_bytes w32 (many_in r) ++ [])) (λ r. IsId (target_in r) × ((many_in r < 2 ^ 32) × CountFits room (target_in r) (many_in r) r))
    (λ _. then_field Short id_at (λ first. after_first room first) spelling_of_id IsId
    target_in (λ r. to_be_bytes w32 (many_in r) ++ []) (λ first r. (many_in r < 2 ^ 32) × CountFits room first (many_in r) r)
    id_field
    (λ first fit. then_field Short (or_fail Short (number_at w32)) (λ count. after_count room first count) (to_be_bytes w32) (λ n. n < 2 ^ 32)
    many_in (λ _. []) (λ count r. CountFits room first count r)
    (number_field Short w32 (2 ^ 32) wide32) (λ count lt. count_field room first count) (λ count r fits. ap many_in fits.1.1.1))
    (λ first r fit. ap target_in fit.1.1.1.1)))
    (λ r fit. ap (λ (b : List ℕ). spelling_of_id (target_in r) ++ b) (append-nil (to_be_bytes w32 (many_in r))) ∙ ap body_of_record (sym fit.1.1.1.1.1.1))
    (delete_run_fitted runs room) (delete_run_fits runs room)

no_record_0 : (runs : Bool) (room : ℕ) (r : Record) → RecordFits runs room 0 r → ⊥
no_record_0 runs room (Insert after text) fit = let e : tag_of_record (Insert after text) ≡ 0 = fit.0 in omega arith
no_record_0 runs room (Delete target) fit = let e : tag_of_record (Delete target) ≡ 0 = fit.0 in omega arith
no_record_0 runs room (DeleteRun first count) fit = let e : tag_of_record (DeleteRun first count) ≡ 0 = fit.0 in omega arith

no_record_4 : (runs : Bool) (room tag : ℕ) (r : Record) → RecordFits runs room (suc (suc (suc (suc tag)))) r → ⊥
no_record_4 runs room tag (Insert after text) fit = let e : 1 ≡ suc (suc (suc (suc tag))) = fit.0 in omega arith
no_record_4 runs room tag (Delete target) fit = let e : 2 ≡ suc (suc (suc (suc tag))) = fit.0 in omega arith
no_record_4 runs room tag (DeleteRun first count) fit = let e : 3 ≡ suc (suc (suc (suc tag))) = fit.0 in omega arith

record_after_tag_field : (runs : Bool) (room tag : ℕ) → IsField Short (record_after_tag runs room tag) body_of_record (RecordFits runs room tag)
unfolding record_after_tag
record_after_tag_field runs room zero =
    as_field Short (fail BadTag) body_of_record body_of_record (λ _. ⊥) (RecordFits runs room 0) (fail_field Short BadTag body_of_record) (λ r fit. refl) (λ r none. absurd none) (no_record_0 runs room)
record_after_tag_field runs room (suc zero) = insert_field runs room
record_after_tag_field runs room (suc (suc zero)) = delete_field runs room
record_after_tag_field runs room (suc (suc (suc zero))) = delete_run_field runs room
record_after_tag_field runs room (suc (suc (suc (suc tag)))) =
    as_field Short (fail BadTag) body_of_record body_of_record (λ _. ⊥) (RecordFits runs room (suc (suc (suc (suc tag))))) (fail_field Short BadTag body_of_record) (λ r fit. refl) (λ r none. absurd none) (no_record_4 runs room tag)

record_spelled : (r : Record) → (tag_of_record r ∷ []) ++ body_of_record r ≡ spelling_of_record r
record_spelled (Insert after text) = refl
record_spelled (Delete target) = refl
record_spelled (DeleteRun first count) = refl

record_tag_below : (r : Record) → tag_of_record r < 256
record_tag_below (Insert after text) = omega arith
record_tag_below (Delete target) = omega arith
record_tag_below (DeleteRun first count) = omega arith

pub record_field : (runs : Bool) (room : ℕ) → IsField Short (record_at runs room) spelling_of_record (FitsRecord runs room)
unfolding record_at
record_field runs room =
    as_field Short (record_at runs room) (λ r. (tag_of_record r ∷ []) ++ body_of_record r) spelling_of_record (λ r. (tag_of_record r < 256) × RecordFits runs room (tag_of_record r) r) (FitsRecord runs room)
    (then_field Short (or_fail Short byte_at) (record_after_tag runs room) (λ b. b ∷ []) (λ b. b < 256) tag_of_record body_of_record (RecordFits runs room)
    (byte_field Short) (λ tag lt. record_after_tag_field runs room tag) (λ tag r fit. fit.0))
    (λ r fit. record_spelled r) (λ r fit. fit.1.1) (λ r fit. (record_tag_below r, (refl, fit)))

pub record FitsRecords (runs : Bool) (room : ℕ) (records : List Record) : Type 0 where
  pub some : 1 ≤ length records
  pub count : length records ≤ 65536
  pub each : EachFits (FitsRecord runs) room_after room records

pub records_field : (runs : Bool) (room : ℕ) → IsField Short (records_at runs room) spelling_of_records (FitsRecords runs room)
unfolding records_at
records_field runs room =
    as_field Short (records_at runs room) spelling_of_records spelling_of_records
    (λ rs. (length rs < 2 ^ 32) × ((leb 1 (length rs) ≡ true) × ((leb (length rs) 65536 ≡ true) × ((length rs ≡ length rs) × EachFits (FitsRecord runs) room_after room rs)))) (FitsRecords runs room)
    (then_field Short (or_fail Short (number_at w32)) (λ count. and_then (require (leb 1 count) NoRecords) (λ _. and_then (require (leb count 65536) Limit) (λ _. repeat_at (record_at runs) room_after count room))) (to_be_bytes w32) (λ n. n < 2 ^ 32)
    (λ (rs : List Record). length rs) (flat_map spelling_of_record) (λ count rs. (leb 1 count ≡ true) × ((leb count 65536 ≡ true) × ((length rs ≡ count) × EachFits (FitsRecord runs) room_after room rs)))
    (number_field Short w32 (2 ^ 32) wide32)
    (λ count lt. require_field Short (leb 1 count) NoRecords (and_then (require (leb count 65536) Limit) (λ _. repeat_at (record_at runs) room_after count room)) (flat_map spelling_of_record) (λ rs. (leb count 65536 ≡ true) × ((length rs ≡ count) × EachFits (FitsRecord runs) room_after room rs))
    (λ _. require_field Short (leb count 65536) Limit (repeat_at (record_at runs) room_after count room) (flat_map spelling_of_record) (λ rs. (length rs ≡ count) × EachFits (FitsRecord runs) room_after room rs)
    (λ _. repeat_field Short (record_at runs) room_after spelling_of_record (FitsRecord runs) (record_field runs) count room)))
    (λ count rs fit. fit.1.1.0))
    (λ rs fit. refl)
    (λ rs fit. record { some = leb-true 1 (length rs) fit.1.0; count = leb-true (length rs) 65536 fit.1.1.0; each = fit.1.1.1.1 })
    (λ rs fit. (omega (arith, fit.count), (le-leb 1 (length rs) fit.some, (le-leb (length rs) 65536 fit.count, (refl, fit.each)))))

-- ---- all parts

abbrev SeqFits : ℕ → Type 0
SeqFits n = (1 ≤ n) × (n < 2 ^ 64)

abbrev StartFits : ℕ → Type 0
StartFits n = (1 ≤ n) × (n < 2 ^ 48)

abbrev made : Actor → ℕ → ℕ → ℕ → List ℕ → List Hash → List Record → ChangeParts
made actor seq start time message deps records = record { actor = actor; seq = seq; start = start; time = time; message = message; deps = deps; records = records }

abbrev from_records : Bool → Actor → ℕ → ℕ → ℕ → List ℕ → List Hash → Reads ChangeError ChangeParts
from_records runs actor seq start time message deps = and_then (records_at runs (room_from start)) (λ records. give (made actor seq start time message deps records))

abbrev from_deps : Bool → Actor → ℕ → ℕ → ℕ → List ℕ → Reads ChangeError ChangeParts
from_deps runs actor seq start time message = and_then deps_at (λ deps. from_records runs actor seq start time message deps)

abbrev from_message : Bool → Actor → ℕ → ℕ → ℕ → Reads ChangeError ChangeParts
from_message runs actor seq start time = and_then (text_at Short BadUtf8 w16) (λ message. from_deps runs actor seq start time message)

abbrev from_time : Bool → Actor → ℕ → ℕ → Reads ChangeError ChangeParts
from_time runs actor seq start = and_then (or_fail Short (number_at w64)) (λ time. from_message runs actor seq start time)

abbrev from_start : Bool → Actor → ℕ → Reads ChangeError ChangeParts
from_start runs actor seq = and_then start_at (λ start. from_time runs actor seq start)

abbrev from_seq : Bool → Actor → Reads ChangeError ChangeParts
from_seq runs actor = and_then seq_at (λ seq. from_start runs actor seq)

abbrev from_actor : Bool → Reads ChangeError ChangeParts
from_actor runs = and_then actor_at (λ actor. from_seq runs actor)

records_read : (runs : Bool) (actor : Actor) (seq : ℕ) (start : ℕ) (time : ℕ) (message : List ℕ) (deps : List Hash) → IsField Short (from_records runs actor seq start time message deps) (λ c. (spelling_of_records c.records ++ [])) (λ c. FitsRecords runs (room_from start) c.records × (c ≡ made actor seq start time message deps c.records))
records_read runs actor seq start time message deps =
    then_field Short (records_at runs (room_from start)) (λ records. give (made actor seq start time message deps records)) spelling_of_records (FitsRecords runs (room_from start))
    (λ (c : ChangeParts). c.records) (λ _. []) (λ records c. c ≡ made actor seq start time message deps records)
    (records_field runs (room_from start)) (λ records fit. give_field Short (made actor seq start time message deps records)) (λ records c e. ap (λ (x : ChangeParts). x.records) e)

deps_read : (runs : Bool) (actor : Actor) (seq : ℕ) (start : ℕ) (time : ℕ) (message : List ℕ) → IsField Short (from_deps runs actor seq start time message) (λ c. (spelling_of_deps c.deps ++ (spelling_of_records c.records ++ []))) (λ c. FitsDeps c.deps × (FitsRecords runs (room_from start) c.records × (c ≡ made actor seq start time message c.deps c.records)))
deps_read runs actor seq start time message =
    then_field Short deps_at (λ deps. from_records runs actor seq start time message deps) spelling_of_deps FitsDeps
    (λ (c : ChangeParts). c.deps) (λ c. (spelling_of_records c.records ++ [])) (λ deps c. FitsRecords runs (room_from start) c.records × (c ≡ made actor seq start time message deps c.records))
    deps_field (λ deps fit. records_read runs actor seq start time message deps) (λ deps c fit. ap (λ (x : ChangeParts). x.deps) fit.1)

message_read : (runs : Bool) (actor : Actor) (seq : ℕ) (start : ℕ) (time : ℕ) → IsField Short (from_message runs actor seq start time) (λ c. (spelling_of_message c.message ++ (spelling_of_deps c.deps ++ (spelling_of_records c.records ++ [])))) (λ c. IsText 65535 c.message × (FitsDeps c.deps × (FitsRecords runs (room_from start) c.records × (c ≡ made actor seq start time c.message c.deps c.records))))
message_read runs actor seq start time =
    then_field Short (text_at Short BadUtf8 w16) (λ message. from_deps runs actor seq start time message) spelling_of_message (IsText 65535)
    (λ (c : ChangeParts). c.message) (λ c. (spelling_of_deps c.deps ++ (spelling_of_records c.records ++ []))) (λ message c. FitsDeps c.deps × (FitsRecords runs (room_from start) c.records × (c ≡ made actor seq start time message c.deps c.records)))
    message_field (λ message fit. deps_read runs actor seq start time message) (λ message c fit. ap (λ (x : ChangeParts). x.message) fit.1.1)

time_read : (runs : Bool) (actor : Actor) (seq : ℕ) (start : ℕ) → IsField Short (from_time runs actor seq start) (λ c. (to_be_bytes w64 c.time ++ (spelling_of_message c.message ++ (spelling_of_deps c.deps ++ (spelling_of_records c.records ++ []))))) (λ c. (c.time < 2 ^ 64) × (IsText 65535 c.message × (FitsDeps c.deps × (FitsRecords runs (room_from start) c.records × (c ≡ made actor seq start c.time c.message c.deps c.records)))))
time_read runs actor seq start =
    then_field Short (or_fail Short (number_at w64)) (λ time. from_message runs actor seq start time) (to_be_bytes w64) (λ n. n < 2 ^ 64)
    (λ (c : ChangeParts). c.time) (λ c. (spelling_of_message c.message ++ (spelling_of_deps c.deps ++ (spelling_of_records c.records ++ [])))) (λ time c. IsText 65535 c.message × (FitsDeps c.deps × (FitsRecords runs (room_from start) c.records × (c ≡ made actor seq start time c.message c.deps c.records))))
    (number_field Short w64 (2 ^ 64) wide64) (λ time fit. message_read runs actor seq start time) (λ time c fit. ap (λ (x : ChangeParts). x.time) fit.1.1.1)

start_read : (runs : Bool) (actor : Actor) (seq : ℕ) → IsField Short (from_start runs actor seq) (λ c. (to_be_bytes w64 c.start ++ (to_be_bytes w64 c.time ++ (spelling_of_message c.message ++ (spelling_of_deps c.deps ++ (spelling_of_records c.records ++ [])))))) (λ c. StartFits c.start × ((c.time < 2 ^ 64) × (IsText 65535 c.message × (FitsDeps c.deps × (FitsRecords runs (room_from c.start) c.records × (c ≡ made actor seq c.start c.time c.message c.deps c.records))))))
start_read runs actor seq =
    then_field Short start_at (λ start. from_time runs actor seq start) (to_be_bytes w64) StartFits
    (λ (c : ChangeParts). c.start) (λ c. (to_be_bytes w64 c.time ++ (spelling_of_message c.message ++ (spelling_of_deps c.deps ++ (spelling_of_records c.records ++ []))))) (λ start c. (c.time < 2 ^ 64) × (IsText 65535 c.message × (FitsDeps c.deps × (FitsRecords runs (room_from start) c.records × (c ≡ made actor seq start c.time c.message c.deps c.records)))))
    start_field (λ start fit. time_read runs actor seq start) (λ start c fit. ap (λ (x : ChangeParts). x.start) fit.1.1.1.1)

seq_read : (runs : Bool) (actor : Actor) → IsField Short (from_seq runs actor) (λ c. (to_be_bytes w64 c.seq ++ (to_be_bytes w64 c.start ++ (to_be_bytes w64 c.time ++ (spelling_of_message c.message ++ (spelling_of_deps c.deps ++ (spelling_of_records c.records ++ []))))))) (λ c. SeqFits c.seq × (StartFits c.start × ((c.time < 2 ^ 64) × (IsText 65535 c.message × (FitsDeps c.deps × (FitsRecords runs (room_from c.start) c.records × (c ≡ made actor c.seq c.start c.time c.message c.deps c.records)))))))
seq_read runs actor =
    then_field Short seq_at (λ seq. from_start runs actor seq) (to_be_bytes w64) SeqFits
    (λ (c : ChangeParts). c.seq) (λ c. (to_be_bytes w64 c.start ++ (to_be_bytes w64 c.time ++ (spelling_of_message c.message ++ (spelling_of_deps c.deps ++ (spelling_of_records c.records ++ [])))))) (λ seq c. StartFits c.start × ((c.time < 2 ^ 64) × (IsText 65535 c.message × (FitsDeps c.deps × (FitsRecords runs (room_from c.start) c.records × (c ≡ made actor seq c.start c.time c.message c.deps c.records))))))
    seq_field (λ seq fit. start_read runs actor seq) (λ seq c fit. ap (λ (x : ChangeParts). x.seq) fit.1.1.1.1.1)

actor_read : (runs : Bool) → IsField Short (from_actor runs) (λ c. (c.actor.0 ++ (to_be_bytes w64 c.seq ++ (to_be_bytes w64 c.start ++ (to_be_bytes w64 c.time ++ (spelling_of_message c.message ++ (spelling_of_deps c.deps ++ (spelling_of_records c.records ++ [])))))))) (λ c. IsActor c.actor × (SeqFits c.seq × (StartFits c.start × ((c.time < 2 ^ 64) × (IsText 65535 c.message × (FitsDeps c.deps × (FitsRecords runs (room_from c.start) c.records × (c ≡ made c.actor c.seq c.start c.time c.message c.deps c.records))))))))
actor_read runs =
    then_field Short actor_at (λ actor. from_seq runs actor) (λ a. a.0) IsActor
    (λ (c : ChangeParts). c.actor) (λ c. (to_be_bytes w64 c.seq ++ (to_be_bytes w64 c.start ++ (to_be_bytes w64 c.time ++ (spelling_of_message c.message ++ (spelling_of_deps c.deps ++ (spelling_of_records c.records ++ []))))))) (λ actor c. SeqFits c.seq × (StartFits c.start × ((c.time < 2 ^ 64) × (IsText 65535 c.message × (FitsDeps c.deps × (FitsRecords runs (room_from c.start) c.records × (c ≡ made actor c.seq c.start c.time c.message c.deps c.records)))))))
    actor_field (λ actor fit. seq_read runs actor) (λ actor c fit. ap (λ (x : ChangeParts). x.actor) fit.1.1.1.1.1.1)

-- what the parts that are read have
pub record FitsParts (runs : Bool) (c : ChangeParts) : Type 0 where
  pub actor : IsActor c.actor
  pub seq_from : 1 ≤ c.seq
  pub seq_to : c.seq < 2 ^ 64
  pub start_from : 1 ≤ c.start
  pub start_to : c.start < 2 ^ 48
  pub time : c.time < 2 ^ 64
  pub message : IsText 65535 c.message
  pub deps : FitsDeps c.deps
  pub records : FitsRecords runs (room_from c.start) c.records

-- the bytes after the version
abbrev pub spelling_of_parts : ChangeParts → List ℕ
spelling_of_parts c = c.actor.0 ++ (to_be_bytes w64 c.seq ++ (to_be_bytes w64 c.start ++ (to_be_bytes w64 c.time ++ (spelling_of_message c.message ++ (spelling_of_deps c.deps ++ spelling_of_records c.records)))))

pub parts_field : (runs : Bool) → IsField Short (parts_at runs) spelling_of_parts (FitsParts runs)
unfolding parts_at
parts_field runs =
    as_field Short (parts_at runs) (λ c. (c.actor.0 ++ (to_be_bytes w64 c.seq ++ (to_be_bytes w64 c.start ++ (to_be_bytes w64 c.time ++ (spelling_of_message c.message ++ (spelling_of_deps c.deps ++ (spelling_of_records c.records ++ [])))))))) spelling_of_parts (λ c. IsActor c.actor × (SeqFits c.seq × (StartFits c.start × ((c.time < 2 ^ 64) × (IsText 65535 c.message × (FitsDeps c.deps × (FitsRecords runs (room_from c.start) c.records × (c ≡ made c.actor c.seq c.start c.time c.message c.deps c.records)))))))) (FitsParts runs) (actor_read runs)
    (λ c fit. ap (λ (b : List ℕ). c.actor.0 ++ (to_be_bytes w64 c.seq ++ (to_be_bytes w64 c.start ++ (to_be_bytes w64 c.time ++ (spelling_of_message c.message ++ (spelling_of_deps c.deps ++ b)))))) (append-nil (spelling_of_records c.records)))
    (λ c fit. record { actor = fit.0; seq_from = fit.1.0.0; seq_to = fit.1.0.1; start_from = fit.1.1.0.0; start_to = fit.1.1.0.1; time = fit.1.1.1.0; message = fit.1.1.1.1.0; deps = fit.1.1.1.1.1.0; records = fit.1.1.1.1.1.1.0 })
    (λ c fit. (fit.actor, ((fit.seq_from, fit.seq_to), ((fit.start_from, fit.start_to), (fit.time, (fit.message, (fit.deps, (fit.records, refl))))))))
