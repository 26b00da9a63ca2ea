-- Reading letters and changes one after another, as loops do.
use Rattle.std.proofs.Common.{◌≡◌, ℕ, zero, suc, ◌-◌, ◌+◌, ◌≤◌, ◌<◌, Bool, true, false, cond, eqb, eqb-true, ltb, List, [], ◌∷◌, length, get_or, take, drop, Option, Some, None, Result, Ok, Err, refl, sym, ap, ◌∙◌, add-one, append-nil, drop-cons, length-append, arith}
use Rattle.std.specs.Int.{w32, from_be_bytes}
use Rattle.std.proofs.lemmas.Bool.{ltb-false}
use Rattle.std.proofs.lemmas.List.{take-append-drop, take_at, length-drop, nil_from_length}
use Rattle.tp_codec.specs.Prefix.{byte_at, bytes_at, number_at}
use Rattle.tp_codec.specs.Reading.{Reads, give, and_next, and_then, found_or, or_fail, pass_or_fail, require, repeat_at}
use Rattle.tp_layout.specs.declared.parts.ChangeParts.{ChangeParts}
use Rattle.tp_store.specs.declared.error.StoreError.{StoreError}
use Rattle.tp_store.specs.declared.error.StoreError.TheVariants.{BadMagic, Truncated}
use Rattle.tp_store.specs.declared.saved.TheConstants.{MAGIC}
use Rattle.tp_store.specs.declared.layout.Header.{Header}
use Rattle.tp_store.proofs.LayoutFields.{layout_with}
use Rattle.tp_store.specs.Loading.{letter_at, letters_at, u32_at, digest_at, header_at, piece_at, offset_after, pieces_at, layout_at, end_or_damaged, layout_of, document_of_bytes, and_with, with_piece, with_pieces}

-- ---- letters

drop_one : (ms : List ℕ) (i : ℕ) → i < length ms → drop i ms ≡ get_or ms i 0 ∷ drop (i + 1) ms
drop_one ms i lt = rw add-one (drop-cons ms i 0 lt)

pub letters_on : (ms : List ℕ) (i : ℕ) (bytes after : List ℕ) → i < length ms → letter_at (get_or ms i 0) bytes ≡ Ok (tt, after) → letters_at (drop i ms) bytes ≡ letters_at (drop (i + 1) ms) after
unfolding letters_at and_then and_next
letters_on ms i bytes after lt h =
    ap (λ (l : List ℕ). letters_at l bytes) (drop_one ms i lt) ∙ ap (λ (r : Result (Unit {0} × List ℕ) StoreError). and_next r (λ _. letters_at (drop (i + 1) ms))) h

pub letters_err : (ms : List ℕ) (i : ℕ) (bytes : List ℕ) (e : StoreError) → i < length ms → letter_at (get_or ms i 0) bytes ≡ Err e → letters_at (drop i ms) bytes ≡ Err e
unfolding letters_at and_then and_next
letters_err ms i bytes e lt h =
    ap (λ (l : List ℕ). letters_at l bytes) (drop_one ms i lt) ∙ ap (λ (r : Result (Unit {0} × List ℕ) StoreError). and_next r (λ _. letters_at (drop (i + 1) ms))) h

pub letters_done : (ms : List ℕ) (i : ℕ) (bytes : List ℕ) → length ms ≤ i → letters_at (drop i ms) bytes ≡ Ok (tt, bytes)
unfolding letters_at give
letters_done ms i bytes le =
    let size = length-drop i ms in
    ap (λ (l : List ℕ). letters_at l bytes) (nil_from_length (drop i ms) (omega arith))

by_letter : (m b : ℕ) (ms bytes : List ℕ) (t : Bool) → eqb b m ≡ t → (t ≡ true → letters_at ms bytes ≡ Err BadMagic) → letters_at (m ∷ ms) (b ∷ bytes) ≡ Err BadMagic
unfolding letters_at letter_at and_then and_next or_fail found_or byte_at require pass_or_fail
by_letter m b ms bytes true same rest = rw same (rest refl)
by_letter m b ms bytes false other rest = rw other refl

-- one of the letters is another
pub letters_differ : (ms bytes : List ℕ) (i : ℕ) → i < length ms → i < length bytes → (get_or bytes i 0 ≡ get_or ms i 0 → ⊥) → letters_at ms bytes ≡ Err BadMagic
letters_differ [] bytes i lt within other = absurd (omega arith)
letters_differ (m ∷ ms) [] i lt within other = absurd (omega arith)
letters_differ (m ∷ ms) (b ∷ bytes) zero lt within other = by_letter m b ms bytes (eqb b m) refl (λ same. absurd (other (eqb-true b m same)))
letters_differ (m ∷ ms) (b ∷ bytes) (suc i) lt within other = by_letter m b ms bytes (eqb b m) refl (λ _. letters_differ ms bytes i (omega arith) (omega arith) other)

-- the bytes don't begin as the magic does
pub magic_differs : (bytes : List ℕ) (i : ℕ) → i < length MAGIC → i < length bytes → (get_or bytes i 0 ≡ get_or MAGIC i 0 → ⊥) → document_of_bytes bytes ≡ Err BadMagic
unfolding document_of_bytes layout_of layout_at header_at and_then and_next end_or_damaged
magic_differs bytes i lt within other = rw (letters_differ MAGIC bytes i lt within other) refl

-- ---- lengths

same_pair : {X : Type 0} (x y : X × List ℕ) → (let r : Result (X × List ℕ) StoreError = Ok x in r) ≡ Ok y → x ≡ y
same_pair x y e = cc

pub u32_len : (bytes : List ℕ) (n : ℕ) (rest : List ℕ) → u32_at bytes ≡ Ok (n, rest) → length bytes ≡ 4 + length rest
unfolding u32_at or_fail found_or number_at
u32_len bytes n rest e = by_test (ltb (length bytes) 4) refl e
  where
    by_test : (t : Bool) → ltb (length bytes) 4 ≡ t → found_or Truncated (cond t None (Some (from_be_bytes w32 (take 4 bytes), drop 4 bytes))) ≡ Ok (n, rest) → length bytes ≡ 4 + length rest
    by_test true h e = absurd cc
    by_test false h e =
        let long : 4 ≤ length bytes = ltb-false _ _ h in
        let left : drop 4 bytes ≡ rest = ap (λ (q : ℕ × List ℕ). q.1) (same_pair (from_be_bytes w32 (take 4 bytes), drop 4 bytes) (n, rest) e) in
        let size : length (drop 4 bytes) ≡ length rest = ap length left in
        let cut = length-drop 4 bytes in
        omega arith

pub bytes_len : (n : ℕ) (bytes p rest : List ℕ) → bytes_at n bytes ≡ Some (p, rest) → length bytes ≡ length p + length rest
unfolding bytes_at
bytes_len n bytes p rest e = by_test (ltb (length bytes) n) e
  where
    by_test : (t : Bool) → (let o : Option (List ℕ × List ℕ) = cond t None (Some (take n bytes, drop n bytes)) in o) ≡ Some (p, rest) → length bytes ≡ length p + length rest
    by_test true e = absurd cc
    by_test false e =
        let same : (let q : List ℕ × List ℕ = (take n bytes, drop n bytes) in q) ≡ (p, rest) = cc in
        ap length (sym (take-append-drop n bytes)) ∙ length-append (take n bytes) (drop n bytes)
        ∙ ap (λ (q : List ℕ × List ℕ). length q.0 + length q.1) same

next_ok : {X Y : Type 0} (r : Result (X × List ℕ) StoreError) (next : X → Reads StoreError Y) (y : Y × List ℕ) → and_next r next ≡ Ok y → (x : X × List ℕ) × (r ≡ Ok x) × (next x.0 x.1 ≡ Ok y)
unfolding and_next
next_ok (Ok x) next y e = (x, refl, e)
next_ok (Err d) next y e = absurd cc

-- what a slice to the end has
pub rest_whole : (n : ℕ) (bytes : List ℕ) → take (length bytes - n) (drop n bytes) ≡ drop n bytes
rest_whole n bytes =
    ap (take (length bytes - n)) (sym (append-nil (drop n bytes))) ∙ take_at (drop n bytes) [] (length bytes - n) (length-drop n bytes)

-- ---- changes

repeat_more : (n i at : ℕ) (bytes : List ℕ) → i < n → repeat_at piece_at offset_after (n - i) at bytes ≡ and_next (piece_at at bytes) (λ p. and_then (repeat_at piece_at offset_after (n - (i + 1)) (offset_after at p)) (λ ps. give (p ∷ ps)))
unfolding repeat_at
repeat_more n i at bytes lt =
    let k : n - i ≡ suc (n - (i + 1)) = omega arith in
    rw k refl

-- one change was read, and the others are after it
pub one_read : (n i at : ℕ) (bytes p after : List ℕ) (ps : List (List ℕ)) (rest : List ℕ) → i < n → piece_at at bytes ≡ Ok (p, after) → repeat_at piece_at offset_after (n - i) at bytes ≡ Ok (ps, rest)
    → (qs : List (List ℕ)) × (ps ≡ p ∷ qs) × (repeat_at piece_at offset_after (n - (i + 1)) (offset_after at p) after ≡ Ok (qs, rest))
unfolding and_next and_then give
one_read n i at bytes p after ps rest lt h e =
    let read = ap (λ (r : Result (List ℕ × List ℕ) StoreError). and_next r (λ p. and_then (repeat_at piece_at offset_after (n - (i + 1)) (offset_after at p)) (λ qs. give (p ∷ qs)))) h in
    let a = next_ok (repeat_at piece_at offset_after (n - (i + 1)) (offset_after at p) after) (λ qs. give (p ∷ qs)) (ps, rest) (sym read ∙ sym (repeat_more n i at bytes lt) ∙ e) in
    let same = same_pair (p ∷ a.0.0, a.0.1) (ps, rest) a.2 in
    let rest-is : a.0.1 ≡ rest = ap (λ (q : List (List ℕ) × List ℕ). q.1) same in
    (a.0.0, ap (λ (q : List (List ℕ) × List ℕ). q.0) (sym same), a.1 ∙ ap (λ (r : List ℕ). let t : Result (List (List ℕ) × List ℕ) StoreError = Ok (a.0.0, r) in t) rest-is)

-- no fault is read where all can be read
pub none_bad : (n i at : ℕ) (bytes : List ℕ) (e : StoreError) (ps : List (List ℕ)) (rest : List ℕ) → i < n → piece_at at bytes ≡ Err e → repeat_at piece_at offset_after (n - i) at bytes ≡ Ok (ps, rest) → ⊥
unfolding and_next
none_bad n i at bytes e ps rest lt h r =
    let bad = ap (λ (r : Result (List ℕ × List ℕ) StoreError). and_next r (λ p. and_then (repeat_at piece_at offset_after (n - (i + 1)) (offset_after at p)) (λ qs. give (p ∷ qs)))) h in
    let no : (let t : Result (List (List ℕ) × List ℕ) StoreError = Err e in t) ≡ Ok (ps, rest) = sym bad ∙ sym (repeat_more n i at bytes lt) ∙ r in
    absurd cc

-- none is left
pub none_left : (n i at : ℕ) (bytes : List ℕ) (ps : List (List ℕ)) (rest : List ℕ) → n ≤ i → repeat_at piece_at offset_after (n - i) at bytes ≡ Ok (ps, rest) → ps ≡ []
unfolding repeat_at
none_left n i at bytes ps rest le e =
    let k : n - i ≡ zero = omega arith in
    let none : (let t : Result (List (List ℕ) × List ℕ) StoreError = Ok ([], bytes) in t) ≡ Ok (ps, rest) = ap (λ (m : ℕ). repeat_at piece_at offset_after m at bytes) (sym k) ∙ e in
    ap (λ (q : List (List ℕ) × List ℕ). q.0) (sym (same_pair ([], bytes) (ps, rest) none))

-- the changes are entered in turn
pub entered_on : (at : ℕ) (C D : List ChangeParts) (p : List ℕ) (ps qs : List (List ℕ)) → ps ≡ p ∷ qs → with_piece at C p ≡ Ok D → with_pieces at C ps ≡ with_pieces (offset_after at p) D qs
unfolding with_pieces
entered_on at C D p ps qs first h =
    ap (with_pieces at C) first ∙ ap (λ (r : Result (List ChangeParts) StoreError). and_with r (λ E. with_pieces (offset_after at p) E qs)) h

pub entered_bad : (at : ℕ) (C : List ChangeParts) (p : List ℕ) (ps qs : List (List ℕ)) (e : StoreError) → ps ≡ p ∷ qs → with_piece at C p ≡ Err e → with_pieces at C ps ≡ Err e
unfolding with_pieces
entered_bad at C p ps qs e first h =
    ap (with_pieces at C) first ∙ ap (λ (r : Result (List ChangeParts) StoreError). and_with r (λ E. with_pieces (offset_after at p) E qs)) h

pub entered_done : (at : ℕ) (C : List ChangeParts) (ps : List (List ℕ)) → ps ≡ [] → with_pieces at C ps ≡ Ok C
unfolding with_pieces
entered_done at C ps none = ap (with_pieces at C) none

-- the changes and the digest make the layout
pub pieces_of : (h : Header) (bytes mid rest d : List ℕ) (ps : List (List ℕ)) → repeat_at piece_at offset_after h.count 28 bytes ≡ Ok (ps, mid) → digest_at mid ≡ Ok (d, rest) → pieces_at h bytes ≡ Ok (layout_with h.id ps d, rest)
unfolding pieces_at and_then and_next give
pieces_of h bytes mid rest d ps one two =
    ap (λ (r : Result (List (List ℕ) × List ℕ) StoreError). and_next r (λ qs. and_then digest_at (λ e. give (layout_with h.id qs e)))) one
    ∙ ap (λ (r : Result (List ℕ × List ℕ) StoreError). and_next r (λ e. give (layout_with h.id ps e))) two
