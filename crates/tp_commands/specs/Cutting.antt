-- Splices that one change can't hold, cut into parts that it can.
use Rattle.std.specs.Prelude.{◌≡◌, ◌≢◌, ◌⊎◌, ◌+◌, ◌<◌, ◌≤◌, ℕ, List, [], ◌∷◌, ◌++◌, length}
use Rattle.tp_layout.specs.declared.limits.TheConstants.{MAX_OPS}
use Rattle.tp_diff.specs.Differences.{LeadAcross}
use Rattle.tp_edit.specs.declared.splice.Splice.{Splice}
use Rattle.tp_edit.specs.Splices.{count_of_splice, inserted_chars}

-- how many operations of either kind a part has at least, where the rest of its stretch has any of that kind: half of those of a
-- change, but for two
abbrev pub least_share : ℕ
least_share = 32766

-- The splice is a part, of as many operations as a change may have, and then the rest. The part has deletes and inserts of the
-- splice together. Neither inserts as many characters as it deletes, so each changes the text.
pub record IsCutInto (s part rest : Splice) : Type 0 where
  pub at : part.at ≡ s.at
  pub next : rest.at ≡ part.at + length (inserted_chars part)
  pub deleted : s.del ≡ part.del + rest.del
  pub inserted : inserted_chars s ≡ inserted_chars part ++ inserted_chars rest
  pub full : count_of_splice part ≡ MAX_OPS
  pub changes : part.del ≢ length (inserted_chars part)
  pub rest_changes : rest.del ≢ length (inserted_chars rest)
  pub deletes : (least_share ≤ part.del) ⊎ (rest.del ≡ 0)
  pub inserts : (least_share ≤ length (inserted_chars part)) ⊎ (inserted_chars rest ≡ [])

-- The splice is the parts, one after another; it is one alone where a change can hold it.
abbrev pub IsCutUp : Splice → List Splice → Type 0
IsCutUp s [] = ⊥
IsCutUp s (p ∷ ps) = ((s ≡ p) × (ps ≡ []) × (count_of_splice s ≤ MAX_OPS)) ⊎ ((rest : Splice) × IsCutInto s p rest × IsCutUp rest ps)

-- so each of the splices is, in turn
abbrev pub AreCutUp : List Splice → List Splice → Type 0
AreCutUp [] parts = parts ≡ []
AreCutUp (s ∷ ss) parts =
    (first : List Splice) × (later : List Splice) × (parts ≡ first ++ later) × IsCutUp s first × (count_of_splice s < 18446744073709551615) × AreCutUp ss later

-- The splices are the stretches that differ between two texts, cut into parts.
pub record AreStretchesCut (old new : List ℕ) (parts : List Splice) : Type 0 where
  pub stretches : List Splice
  pub lead : LeadAcross 18446744073709551615 old new stretches
  pub cut : AreCutUp stretches parts
