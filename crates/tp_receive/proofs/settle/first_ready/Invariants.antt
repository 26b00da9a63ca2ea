use Rattle.tp_receive.proofs.Common.{take, AllWait, KnowsLack}
use Rattle.tp_receive.proofs.settle.first_ready.Given as goal

abbrev pub invariant-loop-i : goal.invariant-loop-i
invariant-loop-i g l = record {
  all : AllWait (g.R.Replica.applied l.replica) (take l.i (g.R.Replica.waiting l.replica));
  knows : KnowsLack (g.R.Replica.applied l.replica) (g.R.Replica.waiting l.replica) l.lacking;
}
