-- What is at the start of bytes is the record of one change, a short tail or a damaged record, and never two of
-- these; and no bytes begin with two records or two headers.
use Rattle.std.proofs.Common.{◌≡◌, ℕ, ◌+◌, ◌^◌, ◌<◌, ◌≤◌, inl, inr, List, ◌++◌, length, take, drop, refl, sym, ap, ◌∙◌, append_assoc, arith}
use Rattle.std.specs.Int.{w32, from_be_bytes, to_be_bytes}
use Rattle.std.proofs.lemmas.List.{take_at, drop_at, length-append}
use Rattle.std.proofs.lemmas.Nat.{from_be_bytes-to_be_bytes_4}
use Rattle.tp_opid.specs.declared.doc_id.DocId.{DocId}
use Rattle.tp_layout.specs.declared.parts.ChangeParts.{ChangeParts}
use Rattle.tp_change.specs.ChangeHash.{hash_of}
use Rattle.tp_layout.specs.Limits.{IsChange}
use Rattle.tp_layout.specs.Spelling.{spelling}
use Rattle.tp_layout.proofs.SpellingLaws.{one_spelling_is, spelling_bounds}
use Rattle.tp_change.proofs.HashLaws.{hash_of_is}
use Rattle.tp_recovery.specs.declared.layout.TheConstants.{MAGIC}
use Rattle.tp_recovery.specs.Layout.{IsDocId, header_of, record_of, IsCutRecord, IsShortTail}
use Rattle.tp_recovery.specs.Refusals.{IsWrong, IsDamaged}

-- two lists whose prefixes have one length
pub split_same : (p q x y : List ℕ) → length p ≡ length q → p ++ x ≡ q ++ y → (p ≡ q) × (x ≡ y)
split_same p q x y l e = (
  sym (take_at p x (length q) l) ∙ ap (take (length q)) e ∙ take_at q y (length q) refl,
  sym (drop_at p x (length q) l) ∙ ap (drop (length q)) e ∙ drop_at q y (length q) refl,
)

-- two lengths at the start of bytes
pub same_size : (n m : ℕ) (x y : List ℕ) → n < 2 ^ 32 → m < 2 ^ 32 → to_be_bytes w32 n ++ x ≡ to_be_bytes w32 m ++ y → (n ≡ m) × (x ≡ y)
same_size n m x y ln lm e =
    let s = split_same (to_be_bytes w32 n) (to_be_bytes w32 m) x y refl e in
    (sym (from_be_bytes-to_be_bytes_4 n ln) ∙ ap (from_be_bytes w32) s.0 ∙ from_be_bytes-to_be_bytes_4 m lm, s.1)

-- a record field by field
pub record_spelled : (c : ChangeParts) (x : List ℕ) → record_of c ++ x ≡ to_be_bytes w32 (length (spelling c)) ++ (spelling c ++ ((hash_of c).0 ++ x))
unfolding record_of
record_spelled c x =
    append_assoc (to_be_bytes w32 (length (spelling c))) (spelling c ++ (hash_of c).0) x
    ∙ ap (λ (l : List ℕ). to_be_bytes w32 (length (spelling c)) ++ l) (append_assoc (spelling c) (hash_of c).0 x)

pub size_fits : (c : ChangeParts) → IsChange c → length (spelling c) < 2 ^ 32
size_fits c is = let few = (spelling_bounds c is).1 in omega arith

pub digest_len : (c : ChangeParts) → length (hash_of c).0 ≡ 32
digest_len c = (hash_of_is c).count

-- how many bytes a record has
pub length-record_of : (c : ChangeParts) → length (record_of c) ≡ 4 + (length (spelling c) + 32)
unfolding record_of
length-record_of c =
    let outer = length-append (to_be_bytes w32 (length (spelling c))) (spelling c ++ (hash_of c).0) in
    let inner = length-append (spelling c) (hash_of c).0 in
    let digest = digest_len c in
    omega arith

-- bytes begin with one record
pub same_record : (c d : ChangeParts) (x y : List ℕ) → IsChange c → IsChange d → record_of c ++ x ≡ record_of d ++ y → (c ≡ d) × (x ≡ y)
same_record c d x y is js e =
    let fields = same_size (length (spelling c)) (length (spelling d)) (spelling c ++ ((hash_of c).0 ++ x)) (spelling d ++ ((hash_of d).0 ++ y)) (size_fits c is) (size_fits d js) (sym (record_spelled c x) ∙ e ∙ record_spelled d y) in
    let bytes = split_same (spelling c) (spelling d) ((hash_of c).0 ++ x) ((hash_of d).0 ++ y) fields.0 fields.1 in
    let digests = split_same (hash_of c).0 (hash_of d).0 x y (digest_len c ∙ sym (digest_len d)) bytes.1 in
    (one_spelling_is c d is js bytes.0, digests.1)

-- what is after the length of a record
after_size : (c : ChangeParts) (x : List ℕ) (n : ℕ) (rest : List ℕ) → IsChange c → n < 2 ^ 32 → record_of c ++ x ≡ to_be_bytes w32 n ++ rest → (length (spelling c) ≡ n) × (spelling c ++ ((hash_of c).0 ++ x) ≡ rest)
after_size c x n rest is lt e =
    same_size (length (spelling c)) n (spelling c ++ ((hash_of c).0 ++ x)) rest (size_fits c is) lt (sym (record_spelled c x) ∙ e)

length-after : (c : ChangeParts) (x : List ℕ) → length (spelling c ++ ((hash_of c).0 ++ x)) ≡ length (spelling c) + (32 + length x)
length-after c x =
    let outer = length-append (spelling c) ((hash_of c).0 ++ x) in
    let inner = length-append (hash_of c).0 x in
    let digest = digest_len c in
    omega arith

cut_no_record : (c : ChangeParts) (x : List ℕ) → IsChange c → IsCutRecord (record_of c ++ x) → ⊥
cut_no_record c x is cut =
    let few = cut.few in
    let same = after_size c x cut.size cut.rest is (omega arith) cut.spelled in
    let whole = length-after c x in
    let same_length : length (spelling c ++ ((hash_of c).0 ++ x)) ≡ length cut.rest = ap length same.1 in
    let size = same.0 in
    let short = cut.short in
    omega arith

-- a whole record is no short tail
pub short_no_record : (c : ChangeParts) (x : List ℕ) → IsChange c → IsShortTail (record_of c ++ x) → ⊥
short_no_record c x is (inl short) =
    let parts = length-append (record_of c) x in
    let own = length-record_of c in
    omega arith
short_no_record c x is (inr cut) = cut_no_record c x is cut

wrong_no_record : (c : ChangeParts) (x : List ℕ) (n : ℕ) (rest : List ℕ) → IsChange c → length (spelling c) ≡ n → spelling c ++ ((hash_of c).0 ++ x) ≡ rest → IsWrong n rest → ⊥
wrong_no_record c x n rest is size body (inl none) = let some = (spelling_bounds c is).0 in omega arith
wrong_no_record c x n rest is size body (inr (inl past)) = let few = (spelling_bounds c is).1 in omega arith
wrong_no_record c x n rest is size body (inr (inr whole)) =
    whole.1 c is
    (ap (take n) (sym body) ∙ take_at (spelling c) ((hash_of c).0 ++ x) n size)
    (ap (λ (l : List ℕ). take 32 (drop n l)) (sym body) ∙ ap (take 32) (drop_at (spelling c) ((hash_of c).0 ++ x) n size) ∙ take_at (hash_of c).0 x 32 (digest_len c))

-- a whole record isn't damaged
pub damaged_no_record : (c : ChangeParts) (x : List ℕ) → IsChange c → IsDamaged (record_of c ++ x) → ⊥
damaged_no_record c x is bad =
    let same = after_size c x bad.size bad.rest is bad.fits bad.spelled in
    wrong_no_record c x bad.size bad.rest is same.0 same.1 bad.wrong

wrong_not_cut : (n : ℕ) (rest : List ℕ) (m : ℕ) (back : List ℕ) → n ≡ m → length rest ≡ length back → 1 ≤ m → m ≤ 4194304 → length back < m + 32 → IsWrong n rest → ⊥
wrong_not_cut n rest m back size same some few short (inl none) = omega arith
wrong_not_cut n rest m back size same some few short (inr (inl past)) = omega arith
wrong_not_cut n rest m back size same some few short (inr (inr whole)) = let there = whole.0 in omega arith

-- a damaged record is no short tail
pub damaged_not_short : (bytes : List ℕ) → IsDamaged bytes → IsShortTail bytes → ⊥
damaged_not_short bytes bad (inl short) =
    let spelled : length bytes ≡ length (to_be_bytes w32 bad.size ++ bad.rest) = ap length bad.spelled in
    let parts = length-append (to_be_bytes w32 bad.size) bad.rest in
    omega arith
damaged_not_short bytes bad (inr cut) =
    let few = cut.few in
    let same = same_size bad.size cut.size bad.rest cut.rest bad.fits (omega arith) (sym bad.spelled ∙ cut.spelled) in
    wrong_not_cut bad.size bad.rest cut.size cut.rest same.0 (ap length same.1) cut.some cut.few cut.short bad.wrong

-- ---- headers

pub length-header_of : (id : DocId) → IsDocId id → length (header_of id) ≡ 24
length-header_of id is =
    let parts = length-append MAGIC id.0 in
    let count = is.count in
    omega arith

pub same_header : (id also : DocId) (x y : List ℕ) → IsDocId id → IsDocId also → header_of id ++ x ≡ header_of also ++ y → (id ≡ also) × (x ≡ y)
same_header id also x y is js e =
    let outer = split_same (header_of id) (header_of also) x y (length-header_of id is ∙ sym (length-header_of also js)) e in
    let inner = split_same MAGIC MAGIC id.0 also.0 refl outer.0 in
    let made : List ℕ → DocId = λ l. record { 0 = l } in
    (ap made inner.1, outer.1)
