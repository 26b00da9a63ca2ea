use Rattle.std.proofs.Common.{take}
use Rattle.tp_list.specs.Members.{SameMembers}
use Rattle.tp_rga.specs.Order.{IsSortedIn}
use Rattle.tp_rga.proofs.by_chains.in_order.Given as goal

-- the list has the inserts so far, in order
abbrev pub invariant-loop-i : goal.invariant-loop-i
invariant-loop-i l = record {
  sorted : IsSortedIn l.inserts l.list.items;
  same : SameMembers (take l.i l.inserts) l.list.items;
}
