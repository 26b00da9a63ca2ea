use Rattle.std.proofs.Common.{arith}
use Rattle.tp_posindex.proofs.Seeking.{gap_after, ends_at}
use Rattle.tp_posindex.proofs.spots.right_after.Goals as goal

pub overflow_add-result : goal.overflow_add-result
overflow_add-result c = omega (arith, c.spot_of-spot.ensures.offset)

pub returns-in-After-clause-gap : goal.returns-in-After-clause-gap
returns-in-After-clause-gap c = gap_after c.args.blocks.now.blocks c.spot_of-spot.result.block c.spot_of-spot.result.offset c.in-After.number c.spot_of-spot.ensures.at

pub returns-in-After-clause-ends : goal.returns-in-After-clause-ends
returns-in-After-clause-ends c = λ E.
    rw c.in-After.is (ends_at E c.args.blocks.now.blocks c.spot_of-spot.result.block c.spot_of-spot.result.offset c.in-After.number c.spot_of-spot.ensures.at)
