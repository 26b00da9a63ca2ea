use Rattle.tp_snapshot.proofs.Common.{◌≡◌, ◌++◌, OpId, is_in_stretches, deletes_in, is_removed, ops_of}
use Rattle.tp_snapshot.proofs.targets.targets_in.Given as goal

-- the stretches so far cover the targets of the operations so far
abbrev pub invariant-loop-op : goal.invariant-loop-op
invariant-loop-op l = record {
  split : l.yielded ++ l.op-iterator ≡ ops_of l.change;
  targets : (x : OpId) → is_in_stretches l.stretches.items x ≡ is_removed (deletes_in l.yielded) x;
}
