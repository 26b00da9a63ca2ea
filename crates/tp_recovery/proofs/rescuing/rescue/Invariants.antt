use Rattle.std.proofs.Common.{◌≡◌, ◌-◌, length}
use Rattle.tp_history.specs.Fit.{most_changes}
use Rattle.tp_recovery.proofs.WholeLaws.{Came}
use Rattle.tp_recovery.proofs.rescuing.rescue.Given as goal

-- some of the changes were put after those that were there first
abbrev pub invariant-passes : goal.invariant-passes
invariant-passes g l = record {
  id : l.document.id ≡ l.fn.document.id;
  waiting : l.document.waiting ≡ l.fn.document.waiting;
  came : Came l.changes l.fn.document.applied l.document.applied;
}

abbrev pub decreases-passes : goal.decreases-passes
decreases-passes g l = most_changes - length l.document.applied
