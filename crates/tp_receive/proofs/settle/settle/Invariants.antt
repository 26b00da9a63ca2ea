use Rattle.tp_receive.proofs.Common.{◌≡◌, List, Bool, length, take, ChangeParts, SomeTurns, intake, AllWait, KnowsLack}
use Rattle.tp_receive.proofs.settle.settle.Given as goal

abbrev pub invariant-loop-i : goal.invariant-loop-i
invariant-loop-i g l = record {
  id : g.R.Replica.id l.replica ≡ g.R.Replica.id l.initial.replica;
  knows : KnowsLack (g.R.Replica.applied l.replica) (g.R.Replica.waiting l.replica) l.lacking;
  waits : AllWait (g.R.Replica.applied l.replica) (take l.known (g.R.Replica.waiting l.replica));
  run : (P : List (ChangeParts × Bool)) → SomeTurns g.K.Keeper.keeps
      (intake l.initial.keeper (g.R.Replica.applied l.initial.replica) (g.R.Replica.waiting l.initial.replica) P l.initial.reported.applied.items l.initial.reported.refused.items)
      (intake l.keeper (g.R.Replica.applied l.replica) (g.R.Replica.waiting l.replica) P l.reported.applied.items l.reported.refused.items);
}

abbrev pub decreases-loop-i : goal.decreases-loop-i
decreases-loop-i g l = length (g.R.Replica.waiting l.replica)
