use Rattle.std.proofs.Common.{List, arith, subst, sym}
use Rattle.tp_layout.specs.declared.parts.ChangeParts.{ChangeParts}
use Rattle.tp_history.specs.Sound.{Sound}
use Rattle.tp_commands.proofs.AuthorLaws.{author_step}
use Rattle.tp_commands.proofs.status.authors.Goals as goal

pub loop-change-preserved : goal.loop-change-preserved
loop-change-preserved c =
    let sound = subst (λ (l : List ChangeParts). Sound l) (sym c.changes-changes.ensures.changes) c.changes-changes.ensures.sound in
    let step = author_step c.changes-changes.result.now c.loop-change.change-index _ _ c.loop-change-test.true c.change-item.is sound in
    record { few = omega (arith, c.loop-change.invariant.few, c.first-count.ensures.most); counted = omega (arith, step, c.loop-change.invariant.counted, c.first-count.ensures.one) }
