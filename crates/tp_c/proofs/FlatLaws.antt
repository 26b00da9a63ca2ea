-- Splices made of numbers and bytes, one after another.
use Rattle.std.proofs.Common.{◌≡◌, ℕ, ◌+◌, ◌<◌, List, [], ◌∷◌, ◌++◌, length, map, get_or, sym, ap, ◌∙◌, subst, take, drop}
use Rattle.std.specs.List.{All, flat_map}
use Rattle.std.specs.Str.{IsUtf8}
use Rattle.std.proofs.Math.Seq.{take-add}
use Rattle.std.proofs.lemmas.List.{flat_map_more, take_more, map-append, drop-drop}
use Rattle.std.proofs.lemmas.List.Elements.{All-push}
use Rattle.std.proofs.lemmas.List.Sums.{sum_by_more}
use Rattle.std.proofs.lemmas.Option.{slice_get-get_or}
use Rattle.tp_edit.specs.declared.splice.Splice.{Splice}
use Rattle.tp_c.specs.declared.splices.FlatSplice.{FlatSplice}
use Rattle.tp_c.specs.Flat.{HasBrokenText, numbers_of, texts_len}

abbrev len_of : FlatSplice → ℕ
len_of f = f.len

abbrev bytes_of : Splice → List ℕ
bytes_of s = s.text.now

abbrev IsRead : Splice → Type 0
IsRead s = IsUtf8 s.text.now

-- The first i splices are made, and the rest of the bytes is for the others.
pub record AreBegun (flat : List FlatSplice) (texts : List ℕ) (i : ℕ) (ss : List Splice) (rest : List ℕ) : Type 0 where
  pub numbers : map numbers_of ss ≡ take i flat
  pub joined : flat_map (λ (s : Splice). s.text.now) ss ≡ take (texts_len (take i flat)) texts
  pub read : All (λ (s : Splice). IsUtf8 s.text.now) ss
  pub rest_is : rest ≡ drop (texts_len (take i flat)) texts

-- one splice more
pub one_more : (flat : List FlatSplice) (texts : List ℕ) (i : ℕ) (d : FlatSplice) (ss : List Splice) (rest : List ℕ) (s : Splice) → AreBegun flat texts i ss rest
    → i < length flat → s.at ≡ (get_or flat i d).at → s.del ≡ (get_or flat i d).del → length s.text.now ≡ (get_or flat i d).len
    → s.text.now ≡ take (get_or flat i d).len rest → IsUtf8 s.text.now → AreBegun flat texts (i + 1) (ss ++ s ∷ []) (drop (get_or flat i d).len rest)
one_more flat texts i d ss rest s h lt at del len text read =
    let n = texts_len (take i flat) in
    let f = get_or flat i d in
    let more : texts_len (take (i + 1) flat) ≡ n + f.len = sum_by_more len_of flat i d lt in
    let made : numbers_of s ≡ f = same_numbers (numbers_of s) f at del len in
    record {
      numbers = map-append numbers_of ss (s ∷ []) ∙ ap (λ l. l ++ numbers_of s ∷ []) h.numbers ∙ ap (λ x. take i flat ++ x ∷ []) made ∙ sym (take_more flat i d lt);
      joined = sym (flat_map_more bytes_of [] ss s) ∙ ap (λ l. l ++ s.text.now) h.joined
          ∙ ap (λ l. take n texts ++ l) (text ∙ ap (take f.len) h.rest_is) ∙ sym (take-add n f.len texts) ∙ ap (λ k. take k texts) (sym more);
      read = All-push IsRead ss s h.read read;
      rest_is = ap (drop f.len) h.rest_is ∙ drop-drop f.len n texts ∙ ap (λ k. drop k texts) (sym more);
    }
  where
    same_numbers : (a b : FlatSplice) → a.at ≡ b.at → a.del ≡ b.del → a.len ≡ b.len → a ≡ b
    same_numbers a b p q r =
        let of_numbers : ℕ → ℕ → ℕ → FlatSplice = λ i j k. record { at = i; del = j; len = k } in
        ap (λ i. of_numbers i a.del a.len) p ∙ ap (λ j. of_numbers b.at j a.len) q ∙ ap (of_numbers b.at b.del) r

-- the next text isn't UTF-8
pub next_unread : (flat : List FlatSplice) (texts : List ℕ) (i : ℕ) (d : FlatSplice) (ss : List Splice) (rest : List ℕ) → AreBegun flat texts i ss rest
    → i < length flat → (IsUtf8 (take (get_or flat i d).len rest) → ⊥) → HasBrokenText flat texts
next_unread flat texts i d ss rest h lt broken = record {
  number = i;
  numbers = get_or flat i d;
  there = slice_get-get_or flat i d lt;
  unread = λ u. broken (subst (λ l. IsUtf8 (take (get_or flat i d).len l)) (sym h.rest_is) u);
}
