-- Splices as C holds them: numbers, beside one run of bytes for all their texts.
use Rattle.std.specs.Prelude.{◌≡◌, ◌≢◌, ◌⊎◌, ℕ, List, length, map, take, drop, slice_get, Some}
use Rattle.std.specs.List.{All, flat_map, sum_by}
use Rattle.std.specs.Str.{IsUtf8}
use Rattle.tp_edit.specs.declared.splice.Splice.{Splice}
use Rattle.tp_c.specs.declared.splices.FlatSplice.{FlatSplice}

-- the numbers of a splice; the length of its text counts bytes
abbrev pub numbers_of : Splice → FlatSplice
numbers_of s = record { at = s.at; del = s.del; len = length s.text.now }

-- The splices have these numbers, and their texts are the bytes, one after another, each of them UTF-8.
pub record AreSplices (flat : List FlatSplice) (texts : List ℕ) (ss : List Splice) : Type 0 where
  pub numbers : map numbers_of ss ≡ flat
  pub joined : flat_map (λ (s : Splice). s.text.now) ss ≡ texts
  pub read : All (λ (s : Splice). IsUtf8 s.text.now) ss

-- how many bytes the texts have together
abbrev pub texts_len : List FlatSplice → ℕ
texts_len flat = sum_by (λ (f : FlatSplice). f.len) flat

-- One of the texts isn't UTF-8: that of the splice with this number, from 0, which comes after those of the splices
-- before it.
pub record HasBrokenText (flat : List FlatSplice) (texts : List ℕ) : Type 0 where
  pub number : ℕ
  pub numbers : FlatSplice
  pub there : slice_get flat number ≡ Some numbers
  pub unread : IsUtf8 (take numbers.len (drop (texts_len (take number flat)) texts)) → ⊥

-- Why there are no such splices, by the status: 5 where the lengths don't add up, else 4 where one of the texts isn't
-- UTF-8, and `memory` where that was short.
abbrev pub RefusesSplices : ℕ → List FlatSplice → List ℕ → ℕ → Type 0
RefusesSplices memory flat texts status =
    ((status ≡ 5) × (texts_len flat ≢ length texts))
    ⊎ ((texts_len flat ≡ length texts) × (((status ≡ 4) × HasBrokenText flat texts) ⊎ (status ≡ memory)))
