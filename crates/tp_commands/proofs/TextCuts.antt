-- A text that is gone over character by character.
use Rattle.std.proofs.Common.{◌≡◌, ℕ, ◌+◌, ◌<◌, ◌≤◌, ◌-◌, List, [], ◌∷◌, ◌++◌, length, take, drop, sym, ap, ◌∙◌, subst, arith, append_assoc, length-append, length-drop}
use Rattle.std.proofs.Math.Seq.{take-append_seam}
use Rattle.std.specs.List.{slice_range}
use Rattle.std.specs.Prelude.{encode_utf8, Option, Some, None}
use Rattle.std.specs.Str.Iter.{chars_steps}
use Rattle.std.specs.declared.str.Chars.{Chars}
use Rattle.std.specs.Str.{chars, IsUtf8, IsCharBoundary}
use Rattle.std.proofs.lemmas.Str.{chars_past_char, chars-append, chars-nil, IsUtf8-past_char, IsUtf8-take, IsCharBoundary-at_seam}
use Rattle.std.proofs.lemmas.List.{drop-drop, nil_from_length}

-- What is ahead of the first k characters of the text.
pub record IsAhead (text rest : List ℕ) (k : ℕ) : Type 0 where
  pub first : List ℕ
  pub seam : text ≡ first ++ rest
  pub utf8 : IsUtf8 rest
  pub ahead : chars rest ≡ drop k (chars text)

drop_next : (k c : ℕ) (xs ys : List ℕ) → drop k xs ≡ c ∷ ys → drop (k + 1) xs ≡ ys
drop_next k c xs ys e = sym (drop-drop 1 k xs) ∙ ap (λ l. drop 1 l) e

ahead_next : (text rest past : List ℕ) (k c : ℕ) → IsAhead text rest k → rest ≡ encode_utf8 c ++ past → IsAhead text past (k + 1)
ahead_next text rest past k c h e = record {
  first = h.first ++ encode_utf8 c;
  seam = h.seam ∙ ap (λ r. h.first ++ r) e ∙ sym (append_assoc h.first (encode_utf8 c) past);
  utf8 = IsUtf8-past_char rest past c h.utf8 e;
  ahead = sym (drop_next k c (chars text) (chars past) (sym h.ahead ∙ chars_past_char rest past c h.utf8 e));
}

-- a text ends only where no character is ahead
ahead_ends : (text rest : List ℕ) (k : ℕ) → IsAhead text rest k → length rest ≡ 0 → k < length (chars text) → ⊥
ahead_ends text rest k h e lt =
    let none : drop k (chars text) ≡ [] = sym h.ahead ∙ ap chars (nil_from_length rest e) ∙ chars-nil in
    let counted : length (drop k (chars text)) ≡ 0 = ap length none in
    let left = length-drop k (chars text) in
    omega (arith, counted, left)

-- the next character is passed
pub ahead_step : (text : List ℕ) (s t : Chars) (k : ℕ) (r : Option ℕ) → IsAhead text s.rest.now k → k < length (chars text) → chars_steps s r t → IsAhead text t.rest.now (k + 1)
ahead_step text s t k None h lt step = absurd (ahead_ends text s.rest.now k h step.0.0 lt)
ahead_step text s t k (Some c) h lt step = ahead_next text s.rest.now t.rest.now k c h step.0

first_of_seam : (k : ℕ) (T A : List ℕ) → T ≡ A ++ drop k T → k ≤ length T → A ≡ take k T
first_of_seam k T A e le =
    let counted : length T ≡ length A + length (drop k T) = ap length e ∙ length-append A (drop k T) in
    let left = length-drop k T in
    let same : k ≡ length A = omega (arith, counted, left, le) in
    sym (ap (λ n. take n T) same ∙ ap (λ t. take (length A) t) e ∙ take-append_seam A (drop k T))

pub cut_at : (text rest : List ℕ) (k : ℕ) → IsUtf8 text → IsAhead text rest k → IsCharBoundary text (length text - length rest)
cut_at text rest k u h =
    let counted : length text ≡ length h.first + length rest = ap length h.seam ∙ length-append h.first rest in
    let at : length h.first ≡ length text - length rest = omega (arith, counted) in
    subst (IsCharBoundary text) at (IsCharBoundary-at_seam text h.first rest h.seam h.utf8)

pub cut_first : (text rest : List ℕ) (k : ℕ) → IsUtf8 text → IsAhead text rest k → k ≤ length (chars text) → chars (take (length text - length rest) text) ≡ take k (chars text)
cut_first text rest k u h le =
    let counted : length text ≡ length h.first + length rest = ap length h.seam ∙ length-append h.first rest in
    let at : length text - length rest ≡ length h.first = omega (arith, counted) in
    let first_is : take (length text - length rest) text ≡ h.first =
    ap (λ n. take n text) at ∙ ap (λ t. take (length h.first) t) h.seam ∙ take-append_seam h.first rest in
    let first_utf8 : IsUtf8 h.first = subst IsUtf8 first_is (IsUtf8-take text _ u (cut_at text rest k u h)) in
    let parts : chars text ≡ chars h.first ++ chars rest = ap chars h.seam ∙ chars-append h.first rest first_utf8 in
    let seam : chars text ≡ chars h.first ++ drop k (chars text) = parts ∙ ap (λ r. chars h.first ++ r) h.ahead in
    ap chars first_is ∙ first_of_seam k (chars text) (chars h.first) seam le

pub start_range : (n : ℕ) (xs : List ℕ) → slice_range xs 0 n ≡ take n xs
start_range n xs =
    let same : n - 0 ≡ n = omega arith in
    ap (λ m. take m xs) same
