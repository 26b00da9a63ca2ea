-- No fault is found exactly in what is within the limits and the grammar.
use Rattle.std.proofs.Common.{◌≡◌, ℕ, ◌+◌, ◌-◌, ◌^◌, ◌<◌, ◌≤◌, min, Bool, true, false, ◌&&◌, List, [], ◌∷◌, length, Some, None, Result, Ok, Err, refl, sym, ap, ◌∙◌, arith, length-append}
use Rattle.std.specs.Prelude.{encode_utf8_all, nat_lt, nat_le, OnOk, IfErr, IsTrue}
use Rattle.std.specs.List.{flat_map, AllByRecursion}
use Rattle.std.specs.Ordering.{is_lt}
use Rattle.std.specs.declared.cmp.Ordering.TheVariants.{Less}
use Rattle.std.proofs.lemmas.Bool.{ltb-true, leb-true, lt-ltb, le-leb, and_parts}
use Rattle.std.proofs.lemmas.List.Concat.{flat_map-cons}
use Rattle.tp_list.specs.Rising.{IsRising, IsBelowAll}
use Rattle.tp_list.proofs.RisingLaws.{less_of, IsBelowAll-trans}
use Rattle.tp_opid.specs.declared.hash.Hash.{Hash}
use Rattle.tp_opid.specs.Order.{hash_cmp}
use Rattle.tp_opid.proofs.Orders.{hash_total}
use Rattle.tp_layout.specs.declared.error.ChangeError.{ChangeError}
use Rattle.tp_layout.specs.declared.limits.TheConstants.{MAX_BYTES, MAX_OPS, MAX_DEPS, MAX_MESSAGE_BYTES, COUNTERS_END}
use Rattle.tp_layout.specs.declared.error.ChangeError.TheVariants.{Limit, ZeroSeqOrStart, DepsOrder, NoRecords, EmptyRun, OutOfMemory}
use Rattle.tp_layout.specs.declared.record.Record.{Record}
use Rattle.tp_layout.specs.declared.record.Record.TheVariants.{Insert, Delete, DeleteRun}
use Rattle.tp_layout.specs.declared.parts.ChangeParts.{ChangeParts}
use Rattle.tp_layout.specs.Counts.{count_in, count_of}
use Rattle.tp_layout.specs.Spelling.{spelling, spelling_of_record, spelling_of_place}
use Rattle.tp_layout.specs.Limits.{IsRecord, IsTypedRecord, IsTyped, IsChange}
use Rattle.tp_change.specs.Validated.{is_fault_of_parts, unless, ◌and_then◌, is_above, rises_after, validated_deps, fewest_in, has_targets_within, validated_record, validated_records, validated_numbers, validated_list, validated_parts}
use Rattle.tp_layout.proofs.Counts.{length-le-count_of}
use Rattle.tp_layout.proofs.Lengths.{length_spelling}

-- a test that gave no fault holds
unless_ok : (b : Bool) (e : ChangeError) → unless b e ≡ Ok tt → b ≡ true
unless_ok true e h = refl
unless_ok false e h = cc

-- two validations without a fault
and_ok : (r s : Result (Unit {0}) ChangeError) → (r and_then s) ≡ Ok tt → (r ≡ Ok tt) × (s ≡ Ok tt)
and_ok (Ok tt) s h = (refl, h)
and_ok (Err e) s h = cc

-- and back
ok_and : (r s : Result (Unit {0}) ChangeError) → r ≡ Ok tt → s ≡ Ok tt → (r and_then s) ≡ Ok tt
ok_and r s h k = ap (λ x. x and_then s) h ∙ k

-- a test that holds gives no fault
fine : (b : Bool) (e : ChangeError) → b ≡ true → unless b e ≡ Ok tt
fine b e h = ap (λ x. unless x e) h

-- ---- rising hashes

-- hashes that were found to rise after g rise, and are above it
rising_after : (g : Hash) (hs : List Hash) → rises_after (Some g) hs ≡ true → IsBelowAll hash_cmp g hs × IsRising hash_cmp hs
rising_after g [] e = (tt, tt)
rising_after g (h ∷ hs) e =
    let two = and_parts (is_above (Some g) h) (rises_after (Some h) hs) e in
    let less : hash_cmp g h ≡ Less = less_of (hash_cmp g h) two.0 in
    let more = rising_after h hs two.1 in
    ((less, IsBelowAll-trans hash_cmp hash_total g h hs less more.0), more)

-- hashes that were found to rise do
rising_of : (hs : List Hash) → rises_after None hs ≡ true → IsRising hash_cmp hs
rising_of [] e = tt
rising_of (h ∷ hs) e = rising_after h hs e

-- rising hashes above g are found to rise after it
rises_from : (g : Hash) (hs : List Hash) → IsBelowAll hash_cmp g hs → IsRising hash_cmp hs → rises_after (Some g) hs ≡ true
rises_from g [] below rising = refl
rises_from g (h ∷ hs) below rising =
    ap (λ o. is_lt o && rises_after (Some h) hs) below.0 ∙ rises_from h hs rising.0 rising.1

-- rising hashes are found to rise
rises_of : (hs : List Hash) → IsRising hash_cmp hs → rises_after None hs ≡ true
rises_of [] rising = refl
rises_of (h ∷ hs) rising = rises_from h hs rising.0 rising.1

-- ---- records

-- a record without a fault has enough operations, they have room, and its targets are within the limit
validated_record_ok : (room : ℕ) (r : Record) → validated_record room r ≡ Ok tt → (fewest_in r ≤ count_in r) × (count_in r ≤ room) × (has_targets_within r ≡ true)
validated_record_ok room r h =
    let two = and_ok _ _ h in
    let three = and_ok _ _ two.1 in
    (leb-true _ _ (unless_ok _ _ two.0), leb-true _ _ (unless_ok _ _ three.0), unless_ok _ _ three.1)

-- a record of a change has enough operations
fewest-le-count_in : (r : Record) → IsRecord r → fewest_in r ≤ count_in r
fewest-le-count_in (Insert after text) h = h.2
fewest-le-count_in (Delete target) h = omega arith
fewest-le-count_in (DeleteRun first count) h = h.1

-- and its targets are within the limit
targets_within : (r : Record) → IsRecord r → has_targets_within r ≡ true
targets_within (Insert after text) h = refl
targets_within (Delete target) h = refl
targets_within (DeleteRun first count) h = le-leb (first.counter + count) (2 ^ 48) h.2

-- and back
ok_validated_record : (room : ℕ) (r : Record) → IsRecord r → count_in r ≤ room → validated_record room r ≡ Ok tt
ok_validated_record room r is few =
    ok_and _ _ (fine (nat_le (fewest_in r) (count_in r)) _ (le-leb (fewest_in r) (count_in r) (fewest-le-count_in r is)))
    (ok_and _ _ (fine (nat_le (count_in r) room) _ (le-leb (count_in r) room few)) (fine (has_targets_within r) _ (targets_within r is)))

-- a typed record without a fault is one of a change: a run's text is no longer than its record
record_of : (r : Record) → IsTypedRecord r → fewest_in r ≤ count_in r → has_targets_within r ≡ true → length (spelling_of_record r) ≤ 4194304 → IsRecord r
record_of (Insert after text) typed some within short =
    let parts : length (spelling_of_record (Insert after text)) ≡ 5 + (length (spelling_of_place after) + length (encode_utf8_all text)) = simp length-append (omega arith) in
    (typed.0, record { scalars = typed.1; bytes = omega arith }, some)
record_of (Delete target) typed some within short = typed
record_of (DeleteRun first count) typed some within short = (typed.0, some, leb-true (first.counter + count) (2 ^ 48) within)

-- records without a fault are records of a change, and all their operations have room
records_of : (room : ℕ) (rs : List Record) → AllByRecursion IsTypedRecord rs → length (flat_map spelling_of_record rs) ≤ 4194304 → validated_records room rs ≡ Ok tt → AllByRecursion IsRecord rs × (count_of rs ≤ room)
records_of room [] typed short h = (tt, omega arith)
records_of room (r ∷ rs) typed short h =
    let two = and_ok (validated_record room r) (validated_records (room - count_in r) rs) h in
    let first = validated_record_ok room r two.0 in
    let sum : length (flat_map spelling_of_record (r ∷ rs)) ≡ length (spelling_of_record r) + length (flat_map spelling_of_record rs) =
    ap length (flat_map-cons spelling_of_record r rs) ∙ length-append (spelling_of_record r) (flat_map spelling_of_record rs) in
    let more = records_of (room - count_in r) rs typed.1 (omega arith) two.1 in
    ((record_of r typed.0 first.0 first.2 (omega arith), more.0), omega (arith, first.1, more.1))

-- and back
ok_records : (room : ℕ) (rs : List Record) → AllByRecursion IsRecord rs → count_of rs ≤ room → validated_records room rs ≡ Ok tt
ok_records room [] all few = refl
ok_records room (r ∷ rs) all few =
    ok_and _ _ (ok_validated_record room r all.0 (omega arith)) (ok_records (room - count_in r) rs all.1 (omega arith))

-- ---- changes

-- the records are no longer than the change
short_records : (c : ChangeParts) → length (spelling c) ≤ 4194304 → length (flat_map spelling_of_record c.records) ≤ 4194304
short_records c short = omega (arith, length_spelling c)

-- the one limit
below_right : (n a b : ℕ) → n ≤ min a b → n ≤ b
below_right n a b h = omega arith

-- the other limit
below_left : (start n top b : ℕ) → start < top → n ≤ min (top - start) b → start + n ≤ top
below_left start n top b lt h = omega arith

-- each field by its validation
parts_of : (c : ChangeParts) → IsTyped c → unless (nat_le (length (spelling c)) 4194304) Limit ≡ Ok tt → validated_numbers c.seq c.start ≡ Ok tt → unless (nat_le (length (encode_utf8_all c.message)) 65535) Limit ≡ Ok tt → validated_deps c.deps ≡ Ok tt → validated_list c.start c.records ≡ Ok tt → IsChange c
parts_of c typed size numbers message deps list =
    let seq = and_ok _ _ numbers in
    let start = and_ok _ _ seq.1 in
    let in_deps = and_ok _ _ deps in
    let some = and_ok _ _ list in
    let few = and_ok _ _ some.1 in
    let short : length (spelling c) ≤ 4194304 = leb-true _ _ (unless_ok _ _ size) in
    let room = min (2 ^ 48 - c.start) 65536 in
    let all : AllByRecursion IsRecord c.records × (count_of c.records ≤ room) = records_of room c.records typed.records (short_records c short) few.1 in
    record {
      actor = typed.actor;
      seq_from = ltb-true _ _ (unless_ok _ _ seq.0);
      seq_to = typed.seq;
      start_from = ltb-true _ _ (unless_ok _ _ start.0);
      time = typed.time;
      message = record { scalars = typed.message; bytes = leb-true _ _ (unless_ok _ _ message) };
      deps = typed.deps;
      deps_rise = rising_of c.deps (unless_ok _ _ in_deps.1);
      deps_count = leb-true _ _ (unless_ok _ _ in_deps.0);
      records = all.0;
      records_some = ltb-true _ _ (unless_ok _ _ some.0);
      operations = below_right (count_of c.records) (2 ^ 48 - c.start) 65536 all.1;
      counters = below_left c.start (count_of c.records) (2 ^ 48) 65536 (ltb-true _ _ (unless_ok _ _ start.1)) all.1;
      size = short;
    }

-- typed parts without a fault are a change
pub change_of : (c : ChangeParts) → IsTyped c → validated_parts c ≡ Ok tt → IsChange c
unfolding validated_parts
change_of c typed h =
    let size = and_ok _ _ h in
    let numbers = and_ok _ _ size.1 in
    let message = and_ok _ _ numbers.1 in
    let deps = and_ok _ _ message.1 in
    parts_of c typed size.0 numbers.0 message.0 deps.0 deps.1

-- a change has no fault
pub ok_change : (c : ChangeParts) → IsChange c → validated_parts c ≡ Ok tt
unfolding validated_parts
ok_change c h =
    let few = length-le-count_of c.records h.records in
    let one : 1 ≤ count_of c.records = omega (arith, h.records_some) in
    let below : count_of c.records ≤ min (2 ^ 48 - c.start) 65536 = omega (arith, h.operations, h.counters) in
    let numbers : validated_numbers c.seq c.start ≡ Ok tt =
    ok_and _ _ (fine _ _ (lt-ltb 0 c.seq h.seq_from)) (ok_and _ _ (fine _ _ (lt-ltb 0 c.start h.start_from)) (fine _ _ (lt-ltb c.start (2 ^ 48) (omega (arith, h.counters))))) in
    let list : validated_list c.start c.records ≡ Ok tt =
    ok_and _ _ (fine _ _ (lt-ltb 0 (length c.records) h.records_some)) (ok_and _ _ (fine _ _ (le-leb (length c.records) 65536 (omega (arith, h.operations)))) (ok_records _ c.records h.records below)) in
    let deps : validated_deps c.deps ≡ Ok tt =
    ok_and _ _ (fine _ _ (le-leb (length c.deps) 65535 h.deps_count)) (fine _ _ (rises_of c.deps h.deps_rise)) in
    ok_and _ _ (fine _ _ (le-leb (length (spelling c)) 4194304 h.size)) (ok_and _ _ numbers (ok_and _ _ (fine _ _ (le-leb (length (encode_utf8_all c.message)) 65535 h.message.bytes)) (ok_and _ _ deps list)))

-- what was validated to be without a fault is a change
pub on_change : (c : ChangeParts) (r : Result (Unit {0}) ChangeError) → r ≡ validated_parts c → OnOk r (IsTyped c) → OnOk r (IsChange c)
on_change c (Ok tt) e typed = change_of c typed (sym e)
on_change c (Err _) e typed = tt

-- ---- which faults parts have

abbrev OfParts : Result (Unit {0}) ChangeError → Type 0
OfParts r = IfErr r (λ e. IsTrue (is_fault_of_parts e))

of_and : (a b : Result (Unit {0}) ChangeError) → OfParts a → OfParts b → OfParts (a and_then b)
of_and (Ok _) b f g = g
of_and (Err e) b f g = f

of_last : (b : Bool) (e : ChangeError) → is_fault_of_parts e ≡ true → OfParts (unless b e)
of_last true e h = tt
of_last false e h = h

of_unless : (b : Bool) (e : ChangeError) (rest : Result (Unit {0}) ChangeError) → is_fault_of_parts e ≡ true → OfParts rest → OfParts (unless b e and_then rest)
of_unless b e rest h g = of_and (unless b e) rest (of_last b e h) g

of_record : (room : ℕ) (r : Record) → OfParts (validated_record room r)
of_record room r =
    let targets = unless (has_targets_within r) Limit in
    of_unless (nat_le (fewest_in r) (count_in r)) EmptyRun (unless (nat_le (count_in r) room) Limit and_then targets) refl
    (of_unless (nat_le (count_in r) room) Limit targets refl (of_last (has_targets_within r) Limit refl))

of_records : (room : ℕ) (rs : List Record) → OfParts (validated_records room rs)
of_records room [] = tt
of_records room (r ∷ rs) = of_and (validated_record room r) (validated_records (room - count_in r) rs) (of_record room r) (of_records (room - count_in r) rs)

of_list : (start : ℕ) (rs : List Record) → OfParts (validated_list start rs)
of_list start rs =
    let records = validated_records (min (COUNTERS_END - start) MAX_OPS) rs in
    of_unless (nat_lt 0 (length rs)) NoRecords (unless (nat_le (length rs) MAX_OPS) Limit and_then records) refl
    (of_unless (nat_le (length rs) MAX_OPS) Limit records refl (of_records (min (COUNTERS_END - start) MAX_OPS) rs))

of_deps : (hs : List Hash) → OfParts (validated_deps hs)
of_deps hs = of_unless (nat_le (length hs) MAX_DEPS) Limit (unless (rises_after None hs) DepsOrder) refl (of_last (rises_after None hs) DepsOrder refl)

of_numbers : (seq start : ℕ) → OfParts (validated_numbers seq start)
of_numbers seq start =
    let top = unless (nat_lt start COUNTERS_END) Limit in
    of_unless (nat_lt 0 seq) ZeroSeqOrStart (unless (nat_lt 0 start) ZeroSeqOrStart and_then top) refl
    (of_unless (nat_lt 0 start) ZeroSeqOrStart top refl (of_last (nat_lt start COUNTERS_END) Limit refl))

of_parts : (c : ChangeParts) → OfParts (validated_parts c)
unfolding validated_parts
of_parts c =
    let list = validated_list c.start c.records in
    let deps = validated_deps c.deps and_then list in
    let short = nat_le (length (encode_utf8_all c.message)) MAX_MESSAGE_BYTES in
    let message = unless short Limit and_then deps in
    of_unless (nat_le (length (spelling c)) MAX_BYTES) Limit (validated_numbers c.seq c.start and_then message) refl
    (of_and (validated_numbers c.seq c.start) message (of_numbers c.seq c.start)
    (of_unless short Limit deps refl (of_and (validated_deps c.deps) list (of_deps c.deps) (of_list c.start c.records))))

-- what is refused is refused for a fault that parts can have
pub faults_of_parts : (c : ChangeParts) (r : Result (Unit {0}) ChangeError) → r ≡ validated_parts c → IfErr r (λ e. IsTrue (is_fault_of_parts e))
faults_of_parts c r h = rw h (of_parts c)

memory_is_none : (e : ChangeError) → is_fault_of_parts e ≡ true → e ≡ OutOfMemory → ⊥
memory_is_none e h same = let wrong : is_fault_of_parts e ≡ false = ap is_fault_of_parts same in cc

-- no fault of parts is want of memory
pub never_memory : (c : ChangeParts) (r : Result (Unit {0}) ChangeError) → r ≡ validated_parts c → IfErr r (λ e. e ≡ OutOfMemory → ⊥)
never_memory c (Ok tt) h = tt
never_memory c (Err e) h = memory_is_none e (faults_of_parts c (Err e) h)
