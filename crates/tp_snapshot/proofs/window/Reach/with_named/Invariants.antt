use Rattle.tp_snapshot.proofs.Common.{◌≡◌, ℕ, ◌++◌, ops_of}
use Rattle.tp_snapshot.specs.Windows.{HasNamed, IsInReach, IsReachOf}
use Rattle.tp_snapshot.proofs.window.Reach.with_named.Given as goal

-- the reach has what the operations so far name
abbrev pub invariant-loop-op : goal.invariant-loop-op
invariant-loop-op g l =
    let L = g.S.Sequence.placed l.sequence in
    record {
      split : l.yielded ++ l.op-iterator ≡ ops_of l.change;
      reach : IsReachOf l.reach L;
      keeps : (k : ℕ) → IsInReach l.initial.reach k → IsInReach l.reach k;
      has : HasNamed l.reach L l.yielded;
    }
