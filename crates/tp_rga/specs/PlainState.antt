-- What always holds of the parts of a plain sequence.
use Rattle.std.specs.Prelude.{◌≡◌, ℕ, Bool, List, length, map}
use Rattle.tp_list.specs.Members.{In}
use Rattle.tp_opid.specs.declared.op_id.OpId.{OpId}
use Rattle.tp_opid.specs.Insert.{Insert}
use Rattle.tp_opid.specs.Tree.{IsThere, IdsApart}
use Rattle.tp_rga.specs.Shown.{is_removed, visible_of}

-- Each delete names an element, and the flags and the count say what the deletes leave.
pub record IsPlainState (L : List Insert) (flags : List Bool) (R : List (OpId × OpId)) (left : ℕ) : Type 0 where
  pub apart : IdsApart L
  pub targets : (r : OpId × OpId) → In r R → IsThere L r.0
  pub flagged : flags ≡ map (λ e. is_removed R e.id) L
  pub counted : left ≡ length (visible_of R L)
