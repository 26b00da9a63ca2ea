use Rattle.tp_world.proofs.Common.{◌∙◌, Decides-eqb}
use Rattle.std.proofs.lemmas.Slice.Eq.{slice_eq-Decides}
use Rattle.tp_world.proofs.ForeignLaws.{same_by_bytes}
use Rattle.tp_world.proofs.foreign.is_same.Goals as goal

pub returns-clause-ok : goal.returns-clause-ok
returns-clause-ok c =
    same_by_bytes c.args.one.now c.args.other.now _ _ c.eq.result c.in_ok-these.ensures.limits c.in_ok-those.ensures.limits (c.as_slice.ensures.value ∙ c.in_ok-these.ensures.bytes) (c.as_slice-2.ensures.value ∙ c.in_ok-those.ensures.bytes)
    (slice_eq-Decides Decides-eqb _ _ _ c.eq.ensures)
