use Rattle.tp_snapshot.proofs.Common.{◌≡◌, length, OpId, is_in_stretches, StretchPrecedes, StartsBefore}
use Rattle.std.specs.List.{AllAdjacentBelow}
use Rattle.tp_snapshot.proofs.targets.raise_ends.Given as goal

-- the stretches so far are in order
abbrev pub invariant-loop-i : goal.invariant-loop-i
invariant-loop-i l = record {
  len : length l.stretches ≡ length l.fn.stretches;
  starts : AllAdjacentBelow StartsBefore l.stretches (length l.stretches);
  order : AllAdjacentBelow StretchPrecedes l.stretches l.i;
  covers : (x : OpId) → is_in_stretches l.stretches x ≡ is_in_stretches l.fn.stretches x;
}
