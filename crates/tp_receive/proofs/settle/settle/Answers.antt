use Rattle.tp_receive.proofs.Common.{◌∙◌}
use Rattle.tp_receive.proofs.TurnLaws.{SomeTurns-one, SomeTurns-then}
use Rattle.tp_receive.proofs.TakingLaws.{stops_on}
use Rattle.tp_receive.proofs.settle.settle.Goals as goal

pub loop-i-preserved : goal.loop-i-preserved
loop-i-preserved g c = record {
  id = c.settle_next.ensures.id ∙ c.loop-i.invariant.id;
  knows = c.in_ok-known.ensures.knows;
  waits = c.in_ok-known.ensures.waits;
  run = λ P. SomeTurns-then g.K.Keeper.keeps _ _ _ (c.loop-i.invariant.run P) (SomeTurns-one g.K.Keeper.keeps _ _ (c.in_ok-known.ensures.ok P));
}

pub returns-in_err-known-clause-err : goal.returns-in_err-known-clause-err
returns-in_err-known-clause-err g c P =
    let R = g.R.Replica in
    stops_on g.K.Keeper.keeps g.K.Keeper.refuses _ _ c.settle_next.new.keeper (R.applied c.settle_next.new.replica) (R.waiting c.settle_next.new.replica)
    c.from_residual.result c.in_err-known.field-0.0 (c.loop-i.invariant.run P) (c.in_err-known.ensures.err P) c.from_residual.ensures.1
