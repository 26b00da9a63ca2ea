use Rattle.tp_receive.proofs.Common.{◌≡◌, ◌+◌, length, drop, slots, AllWait, SomeTurns, intake, KnowsLack, zip}
use Rattle.tp_receive.proofs.intake.take_all.Given as goal

abbrev pub invariant-loop-change : goal.invariant-loop-change
invariant-loop-change g l = record {
  id : g.R.Replica.id l.replica ≡ g.R.Replica.id l.fn.replica;
  run : SomeTurns g.K.Keeper.keeps
      (intake l.fn.keeper (g.R.Replica.applied l.fn.replica) (g.R.Replica.waiting l.fn.replica) (zip l.fn.changes.items l.slots.marks.items) l.fn.reported.applied.items l.fn.reported.refused.items)
      (intake l.keeper (g.R.Replica.applied l.replica) (g.R.Replica.waiting l.replica) (zip l.change-iterator.rest.items (drop l.place l.slots.marks.items)) l.reported.applied.items l.reported.refused.items);
  settled : AllWait (g.R.Replica.applied l.replica) (g.R.Replica.waiting l.replica);
  knows : KnowsLack (g.R.Replica.applied l.replica) (g.R.Replica.waiting l.replica) l.lacking;
  count : l.reserved ≡ slots (zip l.change-iterator.rest.items (drop l.place l.slots.marks.items));
  long : length l.slots.marks.items ≡ l.place + length l.change-iterator.rest.items;
}
