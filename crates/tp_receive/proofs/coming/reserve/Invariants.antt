use Rattle.tp_receive.proofs.Common.{◌≡◌, take, drop, length, slots, zip}
use Rattle.tp_receive.proofs.ComingLaws.{AreNoted}
use Rattle.tp_receive.proofs.coming.reserve.Given as goal

abbrev pub invariant-loop-change : goal.invariant-loop-change
invariant-loop-change g l = record {
  noted : AreNoted (g.R.Replica.applied l.replica) (g.R.Replica.waiting l.replica) l.changes (drop l.change-index l.changes) l.delivered l.slotted (zip (take l.change-index l.changes) l.marks.items);
  long : length l.marks.items ≡ l.change-index;
  count : l.reserved ≡ slots (zip (take l.change-index l.changes) l.marks.items);
}
