-- What the bytes of one field make of what is still read.
use Rattle.tp_message.proofs.Common.{◌≡◌, ◌⊎◌, inl, inr, ℕ, suc, ◌<◌, ◌≤◌, List, [], ◌∷◌, ◌++◌, length, get_or, Bool, true, false, eqb, Option, Some, None, Result, Ok, Err, refl, sym, ap, ◌∙◌, append_assoc, append-nil, arith, length-append, eqb-true, eq-eqb, w32, le-ltb, not_true, or_cases, or_left, Reads, Hash, ChangeParts, change_at, next_before, rises, SyncError, BadMessage, OutOfMemory, MAX_CHANGES, Version, Body, Whole, FailsWith, MessageParts, Steps, each_entry, stay, limit_of, from_be_bytes, take_at, drop_at, or_right, Count, Hashes, ChangeCount, Length, nat_le, ◌==◌, ◌||◌, lt-leb, change_or_fail, with_changes, with_hashes}
use Rattle.std.proofs.lemmas.Bool.{le-leb}
use Rattle.tp_codec.specs.Prefix.{byte_at, bytes_at, number_at}
use Rattle.tp_codec.specs.Reading.{and_next, and_then, found_or, give, or_fail, pass_or_fail, repeat_at, require}
use Rattle.tp_message.specs.declared.stages.HashList.{HashList}
use Rattle.tp_message.specs.declared.stages.HashList.TheVariants.{Heads, Wants, Known}
use Rattle.tp_message.specs.Reading.{changes_at, framed_change_at, next_hash_at, hashes_at, known_at, message_version_at}
use Rattle.tp_message.specs.Stages.{rest_after_hashes, changes_from, entries_from, hashes_from, heads_from, known_from, rest_at, wants_from}

-- ---- fields of a known number of bytes

number_on : (field rest : List ℕ) → length field ≡ 4 → or_fail {E = SyncError} BadMessage (number_at w32) (field ++ rest) ≡ Ok (from_be_bytes w32 field, rest)
unfolding or_fail found_or number_at
number_on field rest len =
    let long = le-ltb (length (field ++ rest)) 4 (omega (arith, length-append field rest, len)) in
    rw (long, take_at field rest 4 len, drop_at field rest 4 len) refl

bytes_on : (n : ℕ) (field rest : List ℕ) → length field ≡ n → or_fail {E = SyncError} BadMessage (bytes_at n) (field ++ rest) ≡ Ok (field, rest)
unfolding or_fail found_or bytes_at
bytes_on n field rest len =
    let long = le-ltb (length (field ++ rest)) n (omega (arith, length-append field rest, len)) in
    rw (long, take_at field rest n len, drop_at field rest n len) refl

-- ---- the version

abbrev there_is : ℕ → Bool
there_is version = version == 1 || version == 2

version_on : (field rest : List ℕ) → length field ≡ 1 → message_version_at (field ++ rest) ≡ and_next (pass_or_fail (there_is (get_or field 0 0)) BadMessage rest) (λ _. give (get_or field 0 0))
unfolding message_version_at and_then and_next or_fail found_or byte_at require
version_on [] rest len = absurd (omega (arith, len))
version_on (b ∷ []) rest len = refl
version_on (b ∷ d ∷ field) rest len = absurd (omega (arith, len))

pub version_step : (m : MessageParts) (field rest : List ℕ) → length field ≡ 1 → (get_or field 0 0 ≡ 1) ⊎ ((get_or field 0 0 ≡ 1 → ⊥) × (get_or field 0 0 ≡ 2)) → rest_at Version m (field ++ rest) ≡ rest_at (Count Heads) (record m { version = get_or field 0 0 }) rest
unfolding rest_at and_then and_next pass_or_fail give heads_from rest_after_hashes
version_step m field rest len known =
    let t : there_is (get_or field 0 0) ≡ true = elim known [ inl e ↦ or_left (eqb (get_or field 0 0) 1) (eqb (get_or field 0 0) 2) (eq-eqb (get_or field 0 0) 1 e) | inr e ↦ or_right (eqb (get_or field 0 0) 1) (eqb (get_or field 0 0) 2) (eq-eqb (get_or field 0 0) 2 e.1) ] in
    rw (version_on field rest len, t) refl

neither : (v : ℕ) → (v ≡ 1 → ⊥) → (v ≡ 2 → ⊥) → there_is v ≡ false
neither v p q = not_true (there_is v) (λ t. elim (or_cases (eqb v 1) (eqb v 2) t) [ inl e ↦ p (eqb-true v 1 e) | inr e ↦ q (eqb-true v 2 e) ])

pub version_fault : (m : MessageParts) (field rest : List ℕ) → length field ≡ 1 → (get_or field 0 0 ≡ 1 → ⊥) → (get_or field 0 0 ≡ 2 → ⊥) → rest_at Version m (field ++ rest) ≡ Err BadMessage
unfolding rest_at and_then and_next pass_or_fail
version_fault m field rest len p q = rw (version_on field rest len, neither (get_or field 0 0) p q) refl

-- ---- lists of hashes

others_on : {X Y : Type 0} (next : List X → Reads SyncError Y) (then : X → List X → Reads SyncError Y) → ((x : X) (xs : List X) (rest : List ℕ) → next (x ∷ xs) rest ≡ then x xs rest)
    → (x : X) (r : Result (List X × List ℕ) SyncError) → and_next (and_next r (λ xs. give (x ∷ xs))) next ≡ and_next r (then x)
unfolding and_next give
others_on next then same x (Ok p) = same x p.0 p.1
others_on next then same x (Err e) = refl

first_on : {S X Y : Type 0} (field : S → Reads SyncError X) (step : S → X → S) (n : ℕ) (s : S) (next : List X → Reads SyncError Y) (then : X → List X → Reads SyncError Y)
    → ((x : X) (xs : List X) (rest : List ℕ) → next (x ∷ xs) rest ≡ then x xs rest)
    → (r : Result (X × List ℕ) SyncError) → and_next (and_next r (λ x. and_then (repeat_at field step n (step s x)) (λ xs. give (x ∷ xs)))) next ≡ and_next r (λ x. and_then (repeat_at field step n (step s x)) (then x))
unfolding and_next and_then
first_on field step n s next then same (Ok p) = others_on next then same p.0 (repeat_at field step n (step s p.0) p.1)
first_on field step n s next then same (Err e) = refl

-- one of repeated fields, and the others after it
repeat_on : {S X Y : Type 0} (field : S → Reads SyncError X) (step : S → X → S) (n : ℕ) (s : S) (next : List X → Reads SyncError Y) (then : X → List X → Reads SyncError Y)
    → ((x : X) (xs : List X) (rest : List ℕ) → next (x ∷ xs) rest ≡ then x xs rest)
    → (bytes : List ℕ) → and_then (repeat_at field step (suc n) s) next bytes ≡ and_next (field s bytes) (λ x. and_then (repeat_at field step n (step s x)) (then x))
unfolding repeat_at and_then
repeat_on field step n s next then same bytes = first_on field step n s next then same (field s bytes)

abbrev hash_with : List ℕ → Hash
hash_with bytes = record { 0 = bytes }

hash_on : (before : Option Hash) (field rest : List ℕ) → length field ≡ 32 → next_hash_at before (field ++ rest) ≡ and_next (pass_or_fail (rises before (hash_with field)) BadMessage rest) (λ _. give (hash_with field))
unfolding next_hash_at and_then and_next require
hash_on before field rest len = rw (bytes_on 32 field rest len) refl

pub with_none : (list : HashList) (m : MessageParts) → with_hashes list m [] ≡ m
with_none Heads m = ap (λ (hs : List Hash). let p : MessageParts = record m { heads = hs } in p) (append-nil m.heads)
with_none Wants m = ap (λ (hs : List Hash). let p : MessageParts = record m { wants = hs } in p) (append-nil m.wants)
with_none Known m = ap (λ (hs : List Hash). let p : MessageParts = record m { known = hs } in p) (append-nil m.known)

with_one_more : (list : HashList) (m : MessageParts) (h : Hash) (hs : List Hash) → with_hashes list m (h ∷ hs) ≡ with_hashes list (with_hashes list m (h ∷ [])) hs
with_one_more Heads m h hs = ap (λ (x : List Hash). let p : MessageParts = record m { heads = x } in p) (sym (append_assoc m.heads (h ∷ []) hs))
with_one_more Wants m h hs = ap (λ (x : List Hash). let p : MessageParts = record m { wants = x } in p) (sym (append_assoc m.wants (h ∷ []) hs))
with_one_more Known m h hs = ap (λ (x : List Hash). let p : MessageParts = record m { known = x } in p) (sym (append_assoc m.known (h ∷ []) hs))

hash_first : (list : HashList) (before : Option Hash) (more : ℕ) (m : MessageParts) (bytes : List ℕ)
    → rest_at (Hashes list before more) m bytes ≡ and_next (next_hash_at before bytes) (λ h. hashes_from list (Some h) more (with_hashes list m (h ∷ [])))
unfolding rest_at hashes_from
hash_first list before more m bytes =
    repeat_on next_hash_at next_before more before (λ hashes. rest_after_hashes list (with_hashes list m hashes)) (λ h hashes. rest_after_hashes list (with_hashes list (with_hashes list m (h ∷ [])) hashes))
    (λ h hashes rest. ap (λ (x : MessageParts). rest_after_hashes list x rest) (with_one_more list m h hashes))
    bytes

pub hash_step : (list : HashList) (before : Option Hash) (more : ℕ) (m : MessageParts) (h : Hash) (field rest : List ℕ) → length field ≡ 32 → h.0 ≡ field → rises before h ≡ true
    → rest_at (Hashes list before more) m (field ++ rest) ≡ hashes_from list (Some h) more (with_hashes list m (h ∷ [])) rest
unfolding and_next pass_or_fail give
hash_step list before more m h field rest len e t =
    let same : h ≡ hash_with field = ap hash_with e in
    let test : rises before (hash_with field) ≡ true = ap (λ (x : Hash). rises before x) (sym same) ∙ t in
    hash_first list before more m (field ++ rest)
    ∙ rw (hash_on before field rest len, test) (ap (λ (x : Hash). hashes_from list (Some x) more (with_hashes list m (x ∷ [])) rest) (sym same))

pub hash_fault : (list : HashList) (before : Option Hash) (more : ℕ) (m : MessageParts) (h : Hash) (field rest : List ℕ) → length field ≡ 32 → h.0 ≡ field → rises before h ≡ false
    → rest_at (Hashes list before more) m (field ++ rest) ≡ Err BadMessage
unfolding and_next pass_or_fail
hash_fault list before more m h field rest len e f =
    let test : rises before (hash_with field) ≡ false = ap (λ (x : Hash). rises before x) (sym (ap hash_with e)) ∙ f in
    hash_first list before more m (field ++ rest) ∙ rw (hash_on before field rest len, test) refl

-- ---- counts of hashes

counted : (limit : ℕ) (field rest : List ℕ) → length field ≡ 4 → hashes_at limit (field ++ rest) ≡ and_next (pass_or_fail (nat_le (from_be_bytes w32 field) limit) BadMessage rest) (λ _. repeat_at next_hash_at next_before (from_be_bytes w32 field) None)
unfolding hashes_at and_then and_next require
counted limit field rest len = rw (number_on field rest len) refl

pub count_step : (list : HashList) (m : MessageParts) (count : ℕ) (field rest : List ℕ) → length field ≡ 4 → count ≡ from_be_bytes w32 field → count ≤ limit_of list
    → rest_at (Count list) m (field ++ rest) ≡ hashes_from list None count m rest
unfolding rest_at hashes_from and_then and_next pass_or_fail
count_step list m count field rest len e le = rw (counted (limit_of list) field rest len, ← e, le-leb count (limit_of list) le) refl

pub count_fault : (list : HashList) (m : MessageParts) (count : ℕ) (field rest : List ℕ) → length field ≡ 4 → count ≡ from_be_bytes w32 field → limit_of list < count
    → rest_at (Count list) m (field ++ rest) ≡ Err BadMessage
unfolding rest_at and_then and_next pass_or_fail
count_fault list m count field rest len e lt = rw (counted (limit_of list) field rest len, ← e, lt-leb count (limit_of list) lt) refl

-- no hash more of a list
pub no_hashes : (list : HashList) (before : Option Hash) (count : ℕ) (m : MessageParts) (rest : List ℕ) → count ≡ 0 → hashes_from list before count m rest ≡ rest_after_hashes list m rest
unfolding hashes_from and_then and_next repeat_at
no_hashes list before count m rest e = rw e (ap (λ (x : MessageParts). rest_after_hashes list x rest) (with_none list m))

-- one hash and more
pub some_hashes : (list : HashList) (before : Option Hash) (count more : ℕ) (m : MessageParts) (rest : List ℕ) → count ≡ suc more → hashes_from list before count m rest ≡ rest_at (Hashes list before more) m rest
unfolding rest_at
some_hashes list before count more m rest e = ap (λ (n : ℕ). hashes_from list before n m rest) e

-- ---- what follows a list

pub after_heads : (m : MessageParts) (rest : List ℕ) → rest_after_hashes Heads m rest ≡ rest_at (Count Wants) m rest
unfolding rest_after_hashes rest_at wants_from
after_heads m rest = refl

pub after_wants_2 : (m : MessageParts) (rest : List ℕ) → m.version ≡ 2 → rest_after_hashes Wants m rest ≡ rest_at (Count Known) m rest
unfolding rest_after_hashes rest_at known_from known_at and_then
after_wants_2 m rest e = rw (eq-eqb m.version 2 e) refl

pub after_wants_1 : (m : MessageParts) (rest : List ℕ) → (m.version ≡ 2 → ⊥) → rest_after_hashes Wants m rest ≡ rest_at ChangeCount m rest
unfolding rest_after_hashes rest_at known_from known_at and_then and_next give
after_wants_1 m rest other = rw (not_true (eqb m.version 2) (λ t. other (eqb-true m.version 2 t))) (ap (λ (x : MessageParts). changes_from x rest) (with_none Known m))

pub after_known : (m : MessageParts) (rest : List ℕ) → rest_after_hashes Known m rest ≡ rest_at ChangeCount m rest
unfolding rest_after_hashes rest_at
after_known m rest = refl

-- ---- changes

entries_counted : (field rest : List ℕ) → length field ≡ 4 → changes_at (field ++ rest) ≡ and_next (pass_or_fail (nat_le (from_be_bytes w32 field) MAX_CHANGES) BadMessage rest) (λ _. repeat_at each_entry stay (from_be_bytes w32 field) tt)
unfolding changes_at and_then and_next require
entries_counted field rest len = rw (number_on field rest len) refl

pub change_count_step : (m : MessageParts) (count : ℕ) (field rest : List ℕ) → length field ≡ 4 → count ≡ from_be_bytes w32 field → count ≤ MAX_CHANGES
    → rest_at ChangeCount m (field ++ rest) ≡ entries_from count m rest
unfolding rest_at changes_from entries_from and_then and_next pass_or_fail
change_count_step m count field rest len e le = rw (entries_counted field rest len, ← e, le-leb count MAX_CHANGES le) refl

pub change_count_fault : (m : MessageParts) (count : ℕ) (field rest : List ℕ) → length field ≡ 4 → count ≡ from_be_bytes w32 field → MAX_CHANGES < count
    → rest_at ChangeCount m (field ++ rest) ≡ Err BadMessage
unfolding rest_at changes_from and_then and_next pass_or_fail
change_count_fault m count field rest len e lt = rw (entries_counted field rest len, ← e, lt-leb count MAX_CHANGES lt) refl

pub no_entries : (count : ℕ) (m : MessageParts) (rest : List ℕ) → count ≡ 0 → entries_from count m rest ≡ rest_at Whole m rest
unfolding entries_from rest_at and_then and_next repeat_at give
no_entries count m rest e = rw e (ap (λ (cs : List ChangeParts). let r : Result (MessageParts × List ℕ) SyncError = Ok (record m { changes = cs }, rest) in r) (append-nil m.changes))

pub some_entries : (count more : ℕ) (m : MessageParts) (rest : List ℕ) → count ≡ suc more → entries_from count m rest ≡ rest_at (Length more) m rest
unfolding rest_at
some_entries count more m rest e = ap (λ (n : ℕ). entries_from n m rest) e

entry_first : (more : ℕ) (m : MessageParts) (bytes : List ℕ) → rest_at (Length more) m bytes ≡ and_next (framed_change_at bytes) (λ c. entries_from more (with_changes m (c ∷ [])))
unfolding rest_at entries_from
entry_first more m bytes =
    repeat_on each_entry stay more tt (λ changes. give (with_changes m changes)) (λ c changes. give (with_changes (with_changes m (c ∷ [])) changes))
    (λ c changes rest. ap (λ (cs : List ChangeParts). give {E = SyncError} (let p : MessageParts = record m { changes = cs } in p) rest) (sym (append_assoc m.changes (c ∷ []) changes)))
    bytes

-- a field within another
nested : {X Y Z : Type 0} (r : Result (X × List ℕ) SyncError) (f : X → Reads SyncError Y) (g : Y → Reads SyncError Z) → and_next (and_next r f) g ≡ and_next r (λ x. and_then (f x) g)
unfolding and_next and_then
nested (Ok p) f g = refl
nested (Err e) f g = refl

pub length_step : (more : ℕ) (m : MessageParts) (field rest : List ℕ) → length field ≡ 4
    → rest_at (Length more) m (field ++ rest) ≡ rest_at (Body (from_be_bytes w32 field) more) m rest
unfolding rest_at framed_change_at and_then and_next
length_step more m field rest len =
    entry_first more m (field ++ rest)
    ∙ rw (number_on field rest len) (nested (or_fail BadMessage (bytes_at (from_be_bytes w32 field)) rest) (λ bytes. change_or_fail (change_at bytes)) (λ c. entries_from more (with_changes m (c ∷ []))))

body_on : (len more : ℕ) (m : MessageParts) (field rest : List ℕ) → length field ≡ len
    → rest_at (Body len more) m (field ++ rest) ≡ and_next (change_or_fail (change_at field) rest) (λ c. entries_from more (with_changes m (c ∷ [])))
unfolding rest_at and_then and_next
body_on len more m field rest e = rw (bytes_on len field rest e) refl

pub body_step : (len more : ℕ) (m : MessageParts) (c : ChangeParts) (field rest : List ℕ) → length field ≡ len → change_or_fail (change_at field) rest ≡ Ok (c, rest)
    → rest_at (Body len more) m (field ++ rest) ≡ entries_from more (with_changes m (c ∷ [])) rest
unfolding and_next
body_step len more m c field rest e d = body_on len more m field rest e ∙ rw d refl

pub body_fault : (len more : ℕ) (m : MessageParts) (e : SyncError) (field rest : List ℕ) → length field ≡ len → change_or_fail (change_at field) rest ≡ Err e
    → rest_at (Body len more) m (field ++ rest) ≡ Err e
unfolding and_next
body_fault len more m e field rest same d = body_on len more m field rest same ∙ rw d refl

-- a change that is refused, or memory that is
pub body_fails : (more : ℕ) (m : MessageParts) (e : SyncError) (field : List ℕ) → ((rest : List ℕ) → FailsWith OutOfMemory e (change_or_fail (change_at field) rest))
    → Steps (Body (length field) more) m field (Err e) m
body_fails more m OutOfMemory field f = refl
body_fails more m e field f = λ rest. body_fault (length field) more m e field rest refl (f rest (λ x. cc))
