use Rattle.tp_list.specs.Traces.{Trace}
use Rattle.tp_opid.specs.declared.op_id.Place.TheVariants.{After}
use Rattle.tp_opid.specs.Tree.{HasReference}
use Rattle.tp_rga.specs.Order.{Descends}
use Rattle.tp_rga.proofs.ByChains.{rank}
use Rattle.tp_rga.proofs.by_chains.chain_of.Given as goal

-- the chain leads from the place that was reached to the element
abbrev pub invariant-loop-place : goal.invariant-loop-place
invariant-loop-place l = record {
  there : HasReference l.inserts l.place;
  leads : Trace (Descends l.inserts) l.place l.chain.items (After l.id);
}

-- each reference is smaller
abbrev pub decreases-loop-place : goal.decreases-loop-place
decreases-loop-place l = rank l.inserts l.place
