use Rattle.tp_rga.proofs.Lookups.{IsReferenceBelow-test}
use Rattle.tp_rga.proofs.placed.is_reference_below.Goals as goal

pub returns-then-is_below : goal.returns-then-is_below
returns-then-is_below c = rw c.in-After.is (IsReferenceBelow-test _ _ _ _ (c.is_below.ensures.0 c.if-is_below.true) c.contains.ensures)
