use Rattle.tp_history.proofs.Common.{◌≡◌, ◌+◌, ◌-◌, length, AreInSlots, WINDOW}
use Rattle.tp_history.proofs.index.Index.in_slots.Given as goal

abbrev pub invariant-loop-slot : goal.invariant-loop-slot
invariant-loop-slot l = record {
  count : length l.marks.items ≡ length l.slots - WINDOW + 1;
  marked : AreInSlots l.slots l.slot-index l.marks.items;
}
