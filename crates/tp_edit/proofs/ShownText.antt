-- The characters that a prefix of the elements shows, and one element more.
use Rattle.std.proofs.Common.{◌≡◌, ℕ, ◌+◌, ◌<◌, Bool, true, false, not, List, [], ◌∷◌, ◌++◌, length, take, get_or, cond, Some, None, refl, sym, ap, ◌∙◌, append-nil}
use Rattle.std.specs.Prelude.{encode_utf8, encode_utf8_all, slice_get}
use Rattle.std.specs.Option.{option_map}
use Rattle.std.proofs.lemmas.List.{take_more, take_all, map-append}
use Rattle.std.proofs.lemmas.List.Elements.{filter-append}
use Rattle.std.proofs.lemmas.Str.{encodes-append}
use Rattle.tp_opid.specs.declared.op_id.OpId.{OpId}
use Rattle.tp_opid.specs.Insert.{Insert}
use Rattle.tp_rga.specs.declared.walk.Seen.{Seen}
use Rattle.tp_rga.specs.Shown.{visible_of, is_removed, seen_of}
use Rattle.tp_rga.proofs.Walking.{seen_at, seen_end}
use Rattle.tp_edit.specs.Text.{chars_of}

-- the bytes of the characters that the first k elements show
abbrev pub shown_bytes : List (OpId × OpId) → List Insert → ℕ → List ℕ
shown_bytes R L k = encode_utf8_all (chars_of (visible_of R (take k L)))

-- the bytes that one element shows
abbrev own_bytes : List (OpId × OpId) → Insert → List ℕ
own_bytes R e = encode_utf8_all (chars_of (visible_of R (e ∷ [])))

shown_bytes-more : (R : List (OpId × OpId)) (L : List Insert) (k : ℕ) (e : Insert) → k < length L → get_or L k e ≡ e → shown_bytes R L (k + 1) ≡ shown_bytes R L k ++ own_bytes R e
shown_bytes-more R L k e lt is =
    let more : take (k + 1) L ≡ take k L ++ e ∷ [] = take_more L k e lt ∙ ap (λ x. take k L ++ x ∷ []) is in
    ap (λ l. encode_utf8_all (chars_of (visible_of R l))) more
    ∙ ap (λ l. encode_utf8_all (chars_of l)) (filter-append (λ (x : Insert). not (is_removed R x.id)) (take k L) (e ∷ []))
    ∙ ap encode_utf8_all (map-append (λ (x : Insert). x.ch) (visible_of R (take k L)) (visible_of R (e ∷ [])))
    ∙ encodes-append (chars_of (visible_of R (take k L))) (chars_of (visible_of R (e ∷ [])))

own_bytes-kept : (R : List (OpId × OpId)) (e : Insert) → is_removed R e.id ≡ false → own_bytes R e ≡ encode_utf8 e.ch
own_bytes-kept R e h = ap (λ b. encode_utf8_all (chars_of (cond (not b) (e ∷ []) []))) h ∙ append-nil (encode_utf8 e.ch)

own_bytes-gone : (R : List (OpId × OpId)) (e : Insert) → is_removed R e.id ≡ true → own_bytes R e ≡ []
own_bytes-gone R e h = ap (λ b. encode_utf8_all (chars_of (cond (not b) (e ∷ []) []))) h

not_true : (b : Bool) → not b ≡ true → b ≡ false
not_true true e = cc
not_true false e = refl

not_false : (b : Bool) → not b ≡ false → b ≡ true
not_false true e = refl
not_false false e = cc

-- an element that no delete names adds its character
shown_bytes-kept : (R : List (OpId × OpId)) (L : List Insert) (k : ℕ) (x : Seen) → Some x ≡ option_map (seen_of R) (slice_get L k) → not x.deleted ≡ true → shown_bytes R L (k + 1) ≡ shown_bytes R L k ++ encode_utf8 x.ch
shown_bytes-kept R L k x h passed =
    let kept : x.deleted ≡ false = not_true x.deleted passed in
    let p = seen_at R L k x h in
    let still : is_removed R p.0.id ≡ false = sym (ap (λ (y : Seen). y.deleted) p.3) ∙ kept in
    shown_bytes-more R L k p.0 p.1 p.2
    ∙ ap (λ l. shown_bytes R L k ++ l) (own_bytes-kept R p.0 still ∙ ap (λ (y : Seen). encode_utf8 y.ch) (sym p.3))

-- a tombstone adds none
shown_bytes-gone : (R : List (OpId × OpId)) (L : List Insert) (k : ℕ) (x : Seen) → Some x ≡ option_map (seen_of R) (slice_get L k) → not x.deleted ≡ false → shown_bytes R L (k + 1) ≡ shown_bytes R L k
shown_bytes-gone R L k x h failed =
    let gone : x.deleted ≡ true = not_false x.deleted failed in
    let p = seen_at R L k x h in
    let named : is_removed R p.0.id ≡ true = sym (ap (λ (y : Seen). y.deleted) p.3) ∙ gone in
    shown_bytes-more R L k p.0 p.1 p.2 ∙ ap (λ l. shown_bytes R L k ++ l) (own_bytes-gone R p.0 named) ∙ append-nil (shown_bytes R L k)

-- a text with one character more shows one element more
pub pushed_on : (R : List (OpId × OpId)) (L : List Insert) (k n : ℕ) (x : Seen) (held pushed : List ℕ) → pushed ≡ held ++ encode_utf8 x.ch → held ≡ shown_bytes R L k
    → Some x ≡ option_map (seen_of R) (slice_get L k) → n ≡ k + 1 → not x.deleted ≡ true → pushed ≡ shown_bytes R L n
pushed_on R L k n x held pushed e f at next passed =
    e ∙ ap (λ b. b ++ encode_utf8 x.ch) f ∙ sym (shown_bytes-kept R L k x at passed) ∙ ap (shown_bytes R L) (sym next)

-- and a text without it shows the same, where the element is a tombstone
pub passed_on : (R : List (OpId × OpId)) (L : List Insert) (k n : ℕ) (x : Seen) (held : List ℕ) → held ≡ shown_bytes R L k
    → Some x ≡ option_map (seen_of R) (slice_get L k) → n ≡ k + 1 → not x.deleted ≡ false → held ≡ shown_bytes R L n
passed_on R L k n x held f at next failed = f ∙ sym (shown_bytes-gone R L k x at failed) ∙ ap (shown_bytes R L) (sym next)

-- at the end of a walk it shows them all
pub whole_text : (R : List (OpId × OpId)) (L : List Insert) (k : ℕ) (held : List ℕ) → held ≡ shown_bytes R L k → None ≡ option_map (seen_of R) (slice_get L k) → held ≡ encode_utf8_all (chars_of (visible_of R L))
whole_text R L k held f end =
    let past = seen_end R L k end in f ∙ ap (λ l. encode_utf8_all (chars_of (visible_of R l))) (take_all k L past)
