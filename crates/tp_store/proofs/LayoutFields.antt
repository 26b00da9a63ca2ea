-- The fields of a saved file: what is read is spelled so, what is spelled is read again, and a fault stays.
use Rattle.std.proofs.Common.{◌≡◌, ℕ, suc, ◌^◌, ◌<◌, true, false, eqb, ltb, leb, List, [], ◌∷◌, ◌++◌, length, Ok, refl, sym, ap, ◌∙◌, append-nil, arith, eqb-true, eq-eqb, le-leb, leb-true}
use Rattle.std.specs.Int.{w32, to_be_bytes}
use Rattle.std.specs.List.{flat_map, AllByRecursion}
use Rattle.std.specs.Prelude.{Bool, ◌&&◌}
use Rattle.std.proofs.lemmas.Bool.{le-ltb, ltb-true, and_parts}
use Rattle.std.proofs.lemmas.List.{take_at, drop_at, length-append}
use Rattle.tp_opid.specs.declared.doc_id.DocId.{DocId}
use Rattle.tp_codec.specs.Prefix.{byte_at, bytes_at}
use Rattle.tp_codec.specs.Reading.{give, and_then, found_or, or_fail, require, repeat_at}
use Rattle.tp_codec.proofs.Fields.{AreBytes, AreBytes-cons, IsField, as_field, give_field, then_field, require_field, test_field, byte_field, bytes_field, AreSoMany, number_field, repeat_field, EachFits, wide32}
use Rattle.tp_list.specs.Bytes.{IsBytes}
use Rattle.tp_store.specs.declared.error.StoreError.TheVariants.{BadMagic, Truncated, Damaged}
use Rattle.tp_store.specs.declared.layout.Header.{Header}
use Rattle.tp_store.specs.declared.saved.TheConstants.{MAGIC}
use Rattle.tp_store.specs.Saved.{piece, header, IsPiece}
use Rattle.tp_store.specs.Loading.{SavedLayout, letter_at, letters_at, doc_id_at, u32_at, digest_at, header_at, piece_at, offset_after, pieces_at, layout_at}

-- ---- the header

letter_field : (m : ℕ) → m < 256 → IsField Truncated (letter_at m) (λ _. m ∷ []) (λ _. Unit {0})
unfolding letter_at
letter_field m lt =
    as_field Truncated (letter_at m) (λ _. (m ∷ []) ++ []) (λ _. m ∷ []) (λ _. (m < 256) × (eqb m m ≡ true)) (λ _. Unit {0})
    (then_field Truncated (or_fail Truncated byte_at) (λ b. require (eqb b m) BadMagic) (λ b. b ∷ []) (λ b. b < 256) (λ (_ : Unit {0}). m) (λ _. []) (λ b _. eqb b m ≡ true)
    (byte_field Truncated)
    (λ b lt. test_field Truncated (eqb b m) BadMagic)
    (λ b x fit. sym (eqb-true b m fit)))
    (λ x fit. refl) (λ x fit. tt) (λ x fit. (lt, eq-eqb m m refl))

letters_field : (letters : List ℕ) → AreBytes letters → IsField Truncated (letters_at letters) (λ _. letters) (λ _. Unit {0})
unfolding letters_at
letters_field [] fits =
    as_field Truncated (letters_at []) (λ _. []) (λ _. []) (λ y. y ≡ tt) (λ _. Unit {0}) (give_field Truncated tt)
    (λ x fit. refl) (λ x fit. tt) (λ x fit. refl)
letters_field (m ∷ letters) fits =
    as_field Truncated (letters_at (m ∷ letters)) (λ _. (m ∷ []) ++ letters) (λ _. m ∷ letters) (λ _. Unit {0} × Unit {0}) (λ _. Unit {0})
    (then_field Truncated (letter_at m) (λ _. letters_at letters) (λ _. m ∷ []) (λ _. Unit {0}) (λ (_ : Unit {0}). tt) (λ _. letters) (λ _ _. Unit {0})
    (letter_field m (fits 0))
    (λ x fit. letters_field letters (λ i. fits (suc i)))
    (λ x z fit. refl))
    (λ x fit. refl) (λ x fit. tt) (λ x fit. (tt, tt))

byte_and_more : (b : ℕ) (bytes : List ℕ) → ltb b 256 ≡ true → AreBytes bytes → AreBytes (b ∷ bytes)
byte_and_more b bytes lt fits = AreBytes-cons b bytes (ltb-true b 256 lt) fits

are_small : List ℕ → Bool
are_small [] = true
are_small (b ∷ bytes) = ltb b 256 && are_small bytes

small_bytes : (bytes : List ℕ) → are_small bytes ≡ true → AreBytes bytes
unfolding are_small
small_bytes [] h = λ i. omega arith
small_bytes (b ∷ bytes) h = let both = and_parts (ltb b 256) (are_small bytes) h in byte_and_more b bytes both.0 (small_bytes bytes both.1)

magic_bytes : AreBytes MAGIC
unfolding are_small
magic_bytes = small_bytes MAGIC refl

id_field : IsField Truncated doc_id_at (λ (i : DocId). i.0) (λ i. IsBytes 16 i.0)
unfolding doc_id_at
id_field =
    as_field Truncated doc_id_at (λ (i : DocId). i.0 ++ []) (λ i. i.0) (λ i. AreSoMany 16 i.0 × (i ≡ record { 0 = i.0 })) (λ i. IsBytes 16 i.0)
    (then_field Truncated (or_fail Truncated (bytes_at 16)) (λ bytes. give (record { 0 = bytes })) (λ b. b) (AreSoMany 16) (λ (i : DocId). i.0) (λ _. []) (λ bytes i. i ≡ record { 0 = bytes })
    (bytes_field Truncated 16)
    (λ bytes fit. give_field Truncated (record { 0 = bytes }))
    (λ bytes i e. ap (λ (x : DocId). x.0) e))
    (λ i fit. append-nil i.0) (λ i fit. record { count = fit.0.count; each = fit.0.each }) (λ i fit. (record { count = fit.count; each = fit.each }, refl))

u32_field : IsField Truncated u32_at (to_be_bytes w32) (λ n. n < 2 ^ 32)
unfolding u32_at
u32_field = number_field Truncated w32 (2 ^ 32) wide32

-- n bytes, whatever they are
sized_field : (n : ℕ) → IsField Truncated (or_fail Truncated (bytes_at n)) (λ b. b) (λ b. length b ≡ n)
unfolding or_fail found_or bytes_at
sized_field n = record {
  takes = λ bytes x rest fits e. let t = (bytes_field Truncated n).takes bytes x rest fits e in (t.0, t.1.count);
  again = λ x rest fit.
      let long : ltb (length (x ++ rest)) n ≡ false = le-ltb _ _ (omega (arith, length-append x rest, fit)) in
      rw (long, take_at x rest n fit, drop_at x rest n fit) refl;
  stays = (bytes_field Truncated n).stays;
}

digest_field : IsField Truncated digest_at (λ b. b) (λ b. length b ≡ 32)
unfolding digest_at
digest_field = sized_field 32

-- an identifier of 16 bytes, and a number of 4
pub record IsHeader (h : Header) : Type 0 where
  pub id : IsBytes 16 h.id.0
  pub count : h.count < 2 ^ 32

abbrev header_with : DocId → ℕ → Header
header_with id count = record { id = id; count = count }

abbrev pub spell_header : Header → List ℕ
spell_header h = header h.id h.count

pub header_field : IsField Truncated header_at spell_header IsHeader
unfolding header_at
header_field =
    as_field Truncated header_at (λ (h : Header). MAGIC ++ (h.id.0 ++ (to_be_bytes w32 h.count ++ []))) spell_header
    (λ h. Unit {0} × (IsBytes 16 h.id.0 × ((h.count < 2 ^ 32) × (h ≡ header_with h.id h.count)))) IsHeader
    (then_field Truncated (letters_at MAGIC) (λ _. and_then doc_id_at (λ id. and_then u32_at (λ count. give (header_with id count)))) (λ _. MAGIC) (λ _. Unit {0})
    (λ (_ : Header). tt) (λ h. h.id.0 ++ (to_be_bytes w32 h.count ++ [])) (λ _ h. IsBytes 16 h.id.0 × ((h.count < 2 ^ 32) × (h ≡ header_with h.id h.count)))
    (letters_field MAGIC magic_bytes)
    (λ x fit. then_field Truncated doc_id_at (λ id. and_then u32_at (λ count. give (header_with id count))) (λ (i : DocId). i.0) (λ i. IsBytes 16 i.0)
    (λ (h : Header). h.id) (λ h. to_be_bytes w32 h.count ++ []) (λ id h. (h.count < 2 ^ 32) × (h ≡ header_with id h.count))
    id_field
    (λ id fit. then_field Truncated u32_at (λ count. give (header_with id count)) (to_be_bytes w32) (λ n. n < 2 ^ 32)
    (λ (h : Header). h.count) (λ _. []) (λ count h. h ≡ header_with id count)
    u32_field (λ count lt. give_field Truncated (header_with id count)) (λ count h e. ap (λ (x : Header). x.count) e))
    (λ id h fit. ap (λ (x : Header). x.id) fit.1))
    (λ x h fit. refl))
    (λ h fit. ap (λ (b : List ℕ). MAGIC ++ (h.id.0 ++ b)) (append-nil (to_be_bytes w32 h.count)))
    (λ h fit. record { id = fit.1.0; count = fit.1.1.0 })
    (λ h fit. (tt, (fit.id, (fit.count, refl))))

pub length-header : (id : DocId) (n : ℕ) → IsBytes 16 id.0 → length (header id n) ≡ 28
length-header id n is =
    let a = length-append MAGIC (id.0 ++ to_be_bytes w32 n) in
    let b = length-append id.0 (to_be_bytes w32 n) in
    let count = is.count in
    omega arith

-- ---- the changes

pub piece_field : (at : ℕ) → IsField Truncated (piece_at at) piece IsPiece
unfolding piece_at
piece_field at =
    as_field Truncated (piece_at at) piece piece
    (λ p. (length p < 2 ^ 32) × ((leb 1 (length p) ≡ true) × ((leb (length p) 4194304 ≡ true) × (length p ≡ length p)))) IsPiece
    (then_field Truncated u32_at (λ n. and_then (require (leb 1 n) (Damaged at)) (λ _. and_then (require (leb n 4194304) (Damaged at)) (λ _. or_fail Truncated (bytes_at n))))
    (to_be_bytes w32) (λ n. n < 2 ^ 32) (λ (p : List ℕ). length p) (λ p. p) (λ n p. (leb 1 n ≡ true) × ((leb n 4194304 ≡ true) × (length p ≡ n)))
    u32_field
    (λ n lt. require_field Truncated (leb 1 n) (Damaged at) (and_then (require (leb n 4194304) (Damaged at)) (λ _. or_fail Truncated (bytes_at n))) (λ p. p) (λ p. (leb n 4194304 ≡ true) × (length p ≡ n))
    (λ _. require_field Truncated (leb n 4194304) (Damaged at) (or_fail Truncated (bytes_at n)) (λ p. p) (λ p. length p ≡ n)
    (λ _. sized_field n)))
    (λ n p fit. fit.1.1))
    (λ p fit. refl)
    (λ p fit. record { from = leb-true 1 (length p) fit.1.0; to = leb-true (length p) 4194304 fit.1.1.0 })
    (λ p fit. (omega (arith, fit.to), (le-leb 1 (length p) fit.from, (le-leb (length p) 4194304 fit.to, refl))))

abbrev Fit : ℕ → List ℕ → Type 0
Fit at p = IsPiece p

pieces_each : (at : ℕ) (ps : List (List ℕ)) → EachFits Fit offset_after at ps → AllByRecursion IsPiece ps
pieces_each at [] fit = tt
pieces_each at (p ∷ ps) fit = (fit.0, pieces_each (offset_after at p) ps fit.1)

each_piece : (at : ℕ) (ps : List (List ℕ)) → AllByRecursion IsPiece ps → EachFits Fit offset_after at ps
each_piece at [] is = tt
each_piece at (p ∷ ps) is = (is.0, each_piece (offset_after at p) ps is.1)

pub counted_field : (n at : ℕ) → IsField Truncated (repeat_at piece_at offset_after n at) (flat_map piece) (λ ps. (length ps ≡ n) × EachFits Fit offset_after at ps)
counted_field n at = repeat_field Truncated piece_at offset_after piece Fit piece_field n at

-- as many changes are read again as the count says, whatever follows
pub counted_again : (at : ℕ) (ps : List (List ℕ)) (rest : List ℕ) → AllByRecursion IsPiece ps → repeat_at piece_at offset_after (length ps) at (flat_map piece ps ++ rest) ≡ Ok (ps, rest)
counted_again at ps rest is = (counted_field (length ps) at).again ps rest (refl, each_piece at ps is)

-- ---- the whole

abbrev pub layout_with : DocId → List (List ℕ) → List ℕ → SavedLayout
layout_with id pieces digest = record { id = id; pieces = pieces; digest = digest }

abbrev spell_after : SavedLayout → List ℕ
spell_after l = flat_map piece l.pieces ++ l.digest

-- what is after a header
record IsBehind (h : Header) (l : SavedLayout) : Type 0 where
  id : l.id ≡ h.id
  count : length l.pieces ≡ h.count
  pieces : AllByRecursion IsPiece l.pieces
  digest : length l.digest ≡ 32

after_field : (h : Header) → IsField Truncated (pieces_at h) spell_after (IsBehind h)
unfolding pieces_at
after_field h =
    as_field Truncated (pieces_at h) (λ (l : SavedLayout). flat_map piece l.pieces ++ (l.digest ++ [])) spell_after
    (λ l. ((length l.pieces ≡ h.count) × EachFits Fit offset_after 28 l.pieces) × ((length l.digest ≡ 32) × (l ≡ layout_with h.id l.pieces l.digest))) (IsBehind h)
    (then_field Truncated (repeat_at piece_at offset_after h.count 28) (λ ps. and_then digest_at (λ d. give (layout_with h.id ps d))) (flat_map piece) (λ ps. (length ps ≡ h.count) × EachFits Fit offset_after 28 ps)
    (λ (l : SavedLayout). l.pieces) (λ l. l.digest ++ []) (λ ps l. (length l.digest ≡ 32) × (l ≡ layout_with h.id ps l.digest))
    (counted_field h.count 28)
    (λ ps fit. then_field Truncated digest_at (λ d. give (layout_with h.id ps d)) (λ d. d) (λ d. length d ≡ 32)
    (λ (l : SavedLayout). l.digest) (λ _. []) (λ d l. l ≡ layout_with h.id ps d)
    digest_field (λ d fit. give_field Truncated (layout_with h.id ps d)) (λ d l e. ap (λ (x : SavedLayout). x.digest) e))
    (λ ps l fit. ap (λ (x : SavedLayout). x.pieces) fit.1))
    (λ l fit. ap (λ (b : List ℕ). flat_map piece l.pieces ++ b) (append-nil l.digest))
    (λ l fit. record { id = ap (λ (x : SavedLayout). x.id) fit.1.1; count = fit.0.0; pieces = pieces_each 28 l.pieces fit.0.1; digest = fit.1.0 })
    (λ l fit. ((fit.count, each_piece 28 l.pieces fit.pieces), (fit.digest, ap (λ (i : DocId). layout_with i l.pieces l.digest) fit.id)))

-- 16 bytes, changes that the number of 4 bytes counts, and 32 bytes
pub record IsLayout (l : SavedLayout) : Type 0 where
  pub id : IsBytes 16 l.id.0
  pub count : length l.pieces < 2 ^ 32
  pub pieces : AllByRecursion IsPiece l.pieces
  pub digest : length l.digest ≡ 32

abbrev pub spell_layout : SavedLayout → List ℕ
spell_layout l = header l.id (length l.pieces) ++ (flat_map piece l.pieces ++ l.digest)

header_is : (h : Header) (l : SavedLayout) → IsBehind h l → header_with l.id (length l.pieces) ≡ h
header_is h l is = ap (λ (i : DocId). header_with i (length l.pieces)) is.id ∙ ap (λ (n : ℕ). header_with h.id n) is.count

pub layout_field : IsField Truncated layout_at spell_layout IsLayout
unfolding layout_at
layout_field =
    as_field Truncated layout_at spell_layout spell_layout
    (λ l. IsHeader (header_with l.id (length l.pieces)) × IsBehind (header_with l.id (length l.pieces)) l) IsLayout
    (then_field Truncated header_at pieces_at spell_header IsHeader (λ (l : SavedLayout). header_with l.id (length l.pieces)) spell_after IsBehind
    header_field (λ h fit. after_field h) header_is)
    (λ l fit. refl)
    (λ l fit. record { id = fit.0.id; count = fit.0.count; pieces = fit.1.pieces; digest = fit.1.digest })
    (λ l fit. (record { id = fit.id; count = fit.count }, record { id = refl; count = refl; pieces = fit.pieces; digest = fit.digest }))
