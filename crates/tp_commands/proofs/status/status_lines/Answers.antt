use Rattle.std.proofs.Common.{◌∙◌, arith}
use Rattle.std.proofs.lemmas.Result.{IfOk-weaker}
use Rattle.tp_commands.proofs.StatusLaws.{journal_small, status_is}
use Rattle.tp_commands.proofs.status.status_lines.Goals as goal

pub overflow_add-size : goal.overflow_add-size
overflow_add-size c =
    let small = journal_small _ _ _ _ c.in-Ok.ensures.ok in
    let most = c.in-Ok.recovered.tail.small in
    omega (arith, c.len.ensures)

pub returns-in-Ok-clause-lines : goal.returns-in-Ok-clause-lines
returns-in-Ok-clause-lines c =
    IfOk-weaker c.status-lines.result _ _
    (λ l w. status_is _ _ _ _ _ _ c.len.result w.0 c.args.lock c.in-Ok.ensures.ok c.in-Ok.ensures.tail (c.len.ensures ∙ c.in-Ok.recovered.tail.ok.0) w.1 w.2) c.status-lines.ensures.ok
