use Rattle.std.proofs.Common.{◌≡◌, take}
use Rattle.tp_recovery.specs.Whole.{EntersFitting}
use Rattle.tp_recovery.proofs.rescuing.enter_fitting.Given as goal

-- the changes so far were asked
abbrev pub invariant-loop-change : goal.invariant-loop-change
invariant-loop-change g l = record {
  passes : EntersFitting (take l.change-index l.changes) l.fn.document.applied l.document.applied;
  id : l.document.id ≡ l.fn.document.id;
  waiting : l.document.waiting ≡ l.fn.document.waiting;
}
