-- What the next element of a walk tells.
use Rattle.std.proofs.Common.{◌≡◌, ℕ, ◌<◌, ◌≤◌, List, length, get_or, Some, None, inl, inr, ap, ◌∙◌}
use Rattle.std.specs.Prelude.{slice_get}
use Rattle.std.specs.Option.{option_map}
use Rattle.std.proofs.lemmas.Option.{slice_get_cases}
use Rattle.tp_opid.specs.declared.op_id.OpId.{OpId}
use Rattle.tp_opid.specs.Insert.{Insert}
use Rattle.tp_rga.specs.declared.walk.Seen.{Seen}
use Rattle.tp_rga.specs.Shown.{seen_of}

-- which element is seen
pub seen_at : (R : List (OpId × OpId)) (L : List Insert) (k : ℕ) (x : Seen) → Some x ≡ option_map (seen_of R) (slice_get L k) → (e : Insert) × (k < length L) × (get_or L k e ≡ e) × (x ≡ seen_of R e)
seen_at R L k x h = elim (slice_get_cases L k).1 [
  | inl found ↦ let e : Some x ≡ option_map (seen_of R) (Some found.0) = h ∙ ap (option_map (seen_of R)) found.2 in (found.0, found.1, found.3, cc)
  | inr past ↦ let e : Some x ≡ option_map (seen_of R) None = h ∙ ap (option_map (seen_of R)) past.1 in cc
]

-- one that is seen is before the end
pub seen_within : (R : List (OpId × OpId)) (L : List Insert) (k : ℕ) (x : Seen) → Some x ≡ option_map (seen_of R) (slice_get L k) → k < length L
seen_within R L k x h = (seen_at R L k x h).1

-- where none is seen the elements have ended
pub seen_end : (R : List (OpId × OpId)) (L : List Insert) (k : ℕ) → None ≡ option_map (seen_of R) (slice_get L k) → length L ≤ k
seen_end R L k h = elim (slice_get_cases L k).1 [
  | inl found ↦ let e : None ≡ option_map (seen_of R) (Some found.0) = h ∙ ap (option_map (seen_of R)) found.2 in cc
  | inr past ↦ past.0
]
