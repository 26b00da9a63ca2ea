use Rattle.tp_history.proofs.Common.{refl, slice_get_read}
use Rattle.tp_history.proofs.PlacesLaws.{has_at_by, has_at_past}
use Rattle.tp_history.proofs.index.has_at.Goals as goal

pub returns-then-place-changes : goal.returns-then-place-changes
returns-then-place-changes c =
    has_at_by c.args.changes.now c.args.place c.index-changes-place.result c.hash.result c.args.hash.now c.is.result
    (slice_get_read c.args.changes.now _ c.args.place c.index-changes-place.result refl c.if-place-changes.true c.index-changes-place.is)
    c.hash.ensures.hash c.is.ensures

pub returns-else-place-changes : goal.returns-else-place-changes
returns-else-place-changes c = has_at_past c.args.changes.now c.args.place c.args.hash.now c.if-place-changes.false
