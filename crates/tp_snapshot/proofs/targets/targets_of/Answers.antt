use Rattle.tp_snapshot.proofs.Common.{◌∙◌, sym, ap, is_in_stretches}
use Rattle.tp_snapshot.proofs.TargetLaws.{targets_more, targets_still}
use Rattle.tp_snapshot.proofs.targets.targets_of.Goals as goal
use Rattle.tp_snapshot.proofs.targets.targets_of.Goals.{then-has+in_ok-add, else-has}

pub loop-delete-preserved : goal.loop-delete-preserved
loop-delete-preserved c =
    let K = c.args.clock.now in
    let R = c.args.deletes.now in
    let i = c.loop-delete.delete-index in
    let stretches = c.loop-delete.stretches.items in
    let now = c.if-has.stretches.items in
    record {
      author = c.has.ensures.author;
      targets = elim c.if-has.branch [
        | then-has+in_ok-add w ↦ targets_more K R i _ stretches now c.loop-delete-test.true (sym c.has.ensures.has ∙ w.if-has.true) (λ x. ap (λ v. is_in_stretches v.items x) w.stretches-is ∙ w.in_ok-add.ensures x) c.loop-delete.invariant.targets
        | else-has w ↦ targets_still K R i _ stretches now c.loop-delete-test.true (sym c.has.ensures.has ∙ w.if-has.false) (ap (λ v. v.items) w.stretches-is) c.loop-delete.invariant.targets
      ];
    }
