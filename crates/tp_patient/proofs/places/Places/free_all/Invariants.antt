use Rattle.std.proofs.Common.{◌≡◌, ◌≤◌, ◌+◌, length}
use Rattle.tp_patient.proofs.places.Places.free_all.Given as goal

-- those that were merged so far are no more than there are, and the others are still to come
abbrev pub invariant-loop-place : goal.invariant-loop-place
invariant-loop-place g l = record {
  few : l.all.count ≤ g.K.Ledger.parts;
  left : l.all.count + length l.place-iterator.rest.items ≡ length l.fn.held.items;
}
