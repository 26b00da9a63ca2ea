use Rattle.tp_list.proofs.Members.{In-get_or}
use Rattle.std.proofs.Common.{get_or, arith}
use Rattle.tp_posindex.proofs.Keeping.{indexed_more}
use Rattle.tp_posindex.proofs.blocks.renumber.Goals as goal

pub bounds-index-order : goal.bounds-index-order
bounds-index-order c =
    let order = c.args.order.now in
    let i = c.loop-p.p in
    let within = c.requires.ordered.below (get_or order i 0) (In-get_or order i 0 (omega arith)) in
    omega (arith, within, c.loop-p.auto.index)

pub loop-p-preserved : goal.loop-p-preserved
loop-p-preserved c =
    let order = c.args.order.now in
    let i = c.loop-p.p in
    let within = c.requires.ordered.below (get_or order i 0) (In-get_or order i 0 (omega arith)) in
    indexed_more order c.loop-p.index i c.requires.ordered.once (omega arith) (omega (arith, within)) c.loop-p.invariant
