use Rattle.std.specs.String.{string_bytes}
use Rattle.tp_layout.specs.declared.parts.ChangeParts.{ChangeParts}
use Rattle.tp_history.specs.Fit.{cause}
use Rattle.tp_program.specs.Rescuing.{cause_left, left_after}
use Rattle.tp_program.proofs.RescueLaws.{left_more}
use Rattle.tp_program.proofs.rescuing.left_lines.Goals as goal

pub loop-change-preserved : goal.loop-change-preserved
loop-change-preserved c =
    let C = c.args.graph.now.applied in
    let change : ChangeParts = c.change-item.result in
    let before = c.loop-change.invariant.0 in
    let put = c.in_ok-lines.ensures before c.loop-change.invariant.1 in (
      left_after (cause_left (cause C change)) change before,
      put.1,
      left_more C before c.args.changes.now c.loop-change.change-index change change (string_bytes c.loop-change.lines) (string_bytes c.in_ok-lines.lines) _ c.loop-change-test.true c.change-item.is
          c.loop-change.invariant.2 put.0,
    )
