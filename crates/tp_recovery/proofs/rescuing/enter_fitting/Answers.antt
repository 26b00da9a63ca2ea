use Rattle.std.proofs.Common.{◌∙◌, refl}
use Rattle.tp_recovery.proofs.WholeLaws.{passing_next, passing_none}
use Rattle.tp_recovery.proofs.rescuing.enter_fitting.Goals as goal

pub loop-change-init : goal.loop-change-init
loop-change-init g c = record { passes = passing_none c.args.document.now.applied; id = refl; waiting = refl }

pub loop-change-preserved : goal.loop-change-preserved
loop-change-preserved g c = record {
  passes = passing_next c.args.changes.now c.args.document.now.applied c.loop-change.document.applied c.enter_if_fits.new.document.applied c.loop-change.change-index c.change-item.result
      c.change-item.result c.loop-change-test.true c.change-item.is c.loop-change.invariant.passes c.in_ok-enter_if_fits.ensures.ok;
  id = c.in_ok-enter_if_fits.ensures.id ∙ c.loop-change.invariant.id;
  waiting = c.in_ok-enter_if_fits.ensures.waiting ∙ c.loop-change.invariant.waiting;
}
