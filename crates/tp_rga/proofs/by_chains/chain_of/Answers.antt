use Rattle.tp_rga.proofs.ByChains.{rank-falls, reference_there}
use Rattle.tp_rga.proofs.by_chains.chain_of.Goals as goal

pub loop-place-smaller : goal.loop-place-smaller
loop-place-smaller c = rw c.in-After.is (rank-falls c.args.inserts.now c.requires.tree c.in-After.x c.reference_of-place.result c.reference_of-place.ensures)

pub loop-place-preserved : goal.loop-place-preserved
loop-place-preserved c = record {
  there = reference_there c.args.inserts.now c.requires.tree c.in-After.x c.reference_of-place.result c.reference_of-place.ensures;
  leads = rw c.in_ok-insert.ensures.items (c.loop-place.place, (c.reference_of-place.ensures, c.in-After.is), c.loop-place.invariant.leads);
}
