-- What always holds of the parts of a sequence in blocks.
use Rattle.std.specs.Prelude.{◌≡◌, ℕ, Bool, List, length, map}
use Rattle.tp_opid.specs.declared.op_id.OpId.{OpId}
use Rattle.tp_opid.specs.Insert.{Insert}
use Rattle.tp_elements.specs.Came.{element_at}
use Rattle.tp_rga.specs.PlainState.{IsPlainState}
use Rattle.tp_posindex.specs.Layout.{concat_blocks}
use Rattle.tp_posindex.specs.Laid.{IsNumbered, flags_of}

-- blocks of numbers as blocks of elements
abbrev pub pieces : List Insert → List (List ℕ) → List (List Insert)
pieces E bs = map (map (element_at E)) bs

-- Each element has a flag, and its number is in the blocks once; what the flags and the count say of the elements in
-- their order is what the deletes leave.
pub record IsBlocked (E : List Insert) (bs : List (List ℕ)) (flags : List Bool) (R : List (OpId × OpId)) (left : ℕ) : Type 0 where
  pub matched : length flags ≡ length E
  pub numbered : IsNumbered (length E) (concat_blocks bs)
  pub kept : IsPlainState (map (element_at E) (concat_blocks bs)) (flags_of flags (concat_blocks bs)) R left
