-- What is read of earlier texts, by the status.
use Rattle.std.specs.Prelude.{◌≡◌, ◌⊎◌, ℕ, List, ◌++◌, length, map, take, drop, encode_utf8_all}
use Rattle.std.specs.List.{flat_map}
use Rattle.tp_layout.specs.declared.parts.ChangeParts.{ChangeParts}
use Rattle.tp_snapshot.specs.Differences.{AreDifferences, LeadsTo}
use Rattle.tp_snapshot.specs.declared.differences.Difference.{Difference}
use Rattle.tp_opid.specs.declared.hash.Hash.{Hash}
use Rattle.tp_c.specs.Heads.{AreHeads, RefusesHeads}
use Rattle.tp_c.specs.declared.splices.FlatSplice.{FlatSplice}

-- What was asked at the heads that the bytes are was answered as Answers says; or it was refused.
abbrev pub ReadsAt : List ChangeParts → List ℕ → (List Hash → Type 0) → ℕ → Type 0
ReadsAt C heads Answers status =
    ((status ≡ 0) × ((H : List Hash) × AreHeads C heads H × Answers H)) ⊎ RefusesHeads C heads status

-- What was asked between the heads that `from` has and those that `to` has was answered as Answers says; or it was
-- refused.
abbrev pub ReadsBetween : List ChangeParts → List ℕ → List ℕ → (List Hash → List Hash → Type 0) → ℕ → Type 0
ReadsBetween C from to Answers status =
    ((status ≡ 0) × ((H : List Hash) × AreHeads C from H × ((K : List Hash) × AreHeads C to K × Answers H K)))
    ⊎ (RefusesHeads C from status ⊎ RefusesHeads C to status)

-- the bytes of a difference's text
abbrev pub text_bytes : Difference → List ℕ
text_bytes d = encode_utf8_all d.text

-- the numbers of a difference; the length of its text counts bytes
abbrev pub numbers_of_difference : Difference → FlatSplice
numbers_of_difference d = record { at = d.at; del = d.del; len = length (text_bytes d) }

-- the places, where the first ones have the numbers of the differences, as far as there are places
abbrev pub with_numbers : List Difference → List FlatSplice → List FlatSplice
with_numbers ds places = map numbers_of_difference (take (length places) ds) ++ drop (length ds) places

-- The differences lead from the text of P to that of Q, which are among the changes C, and these are their texts, one
-- after another.
pub record IsFound (C P Q : List ChangeParts) (ds : List Difference) (texts : List ℕ) : Type 0 where
  pub are : AreDifferences C P Q ds
  pub leads : LeadsTo P Q ds
  pub joined : texts ≡ flat_map text_bytes ds

-- They were written to the places, and their texts are the answer.
pub record AnswersDifferences (C P Q : List ChangeParts) (count : ℕ) (places : List FlatSplice × List FlatSplice) (texts : List ℕ) : Type 0 where
  pub differences : List Difference
  pub found : IsFound C P Q differences texts
  pub counts : count ≡ length differences
  pub written : places.1 ≡ with_numbers differences places.0
