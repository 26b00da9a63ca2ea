use Rattle.tp_snapshot.proofs.Common.{ℕ, ◌-◌, length, List, [], Hash}
use Rattle.tp_ancestry.specs.Outside.{IsOutside}
use Rattle.tp_snapshot.specs.Windows.{HasOutside, IsInReach, IsReachOf}
use Rattle.tp_snapshot.proofs.window.Reach.with_each.Given as goal

-- the reach has what the changes that were passed name
abbrev pub invariant-changes : goal.invariant-changes
invariant-changes g l =
    let L = g.S.Sequence.placed l.sequence in
    record {
      reach : IsReachOf l.reach L;
      keeps : (k : ℕ) → IsInReach l.initial.reach k → IsInReach l.reach k;
      has : (H : List Hash) → IsOutside l.graph.applied H [] l.outside → HasOutside l.reach L l.graph.applied H l.place;
    }

abbrev pub decreases-changes : goal.decreases-changes
decreases-changes g l = length l.graph.applied - l.place
