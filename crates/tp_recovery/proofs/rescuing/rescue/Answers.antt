use Rattle.std.proofs.Common.{◌≡◌, length, refl, ap, ◌∙◌, arith}
use Rattle.tp_recovery.proofs.WholeLaws.{all_had, came_more, came_none}
use Rattle.tp_recovery.proofs.rescuing.rescue.Goals as goal

pub passes-init : goal.passes-init
passes-init g c = record { id = refl; waiting = refl; came = came_none c.args.changes.now c.args.document.now.applied }

pub passes-preserved : goal.passes-preserved
passes-preserved g c = record {
  id = c.in_ok-enter_fitting.ensures.id ∙ c.passes.invariant.id;
  waiting = c.in_ok-enter_fitting.ensures.waiting ∙ c.passes.invariant.waiting;
  came = came_more c.args.changes.now c.args.document.now.applied c.passes.document.applied c.enter_fitting.new.document.applied c.passes.invariant.came c.in_ok-enter_fitting.ensures.ok;
}

pub returns-then-changes-count-clause-ok : goal.returns-then-changes-count-clause-ok
returns-then-changes-count-clause-ok g c =
    let old = c.passes.document.applied in
    let new = c.enter_fitting.new.document.applied in
    let before : length c.changes-count.result.now ≡ length old = ap length c.changes-count.ensures.changes in
    let beyond : length c.changes.result.now ≡ length new = ap length c.changes.ensures.changes in
    all_had c.args.changes.now c.args.document.now.applied old new (omega (arith, before, beyond, c.if-changes-count.true)) c.passes.invariant.came c.in_ok-enter_fitting.ensures.ok
