use Rattle.tp_message.proofs.Common.{err_from_is_err_and}
use Rattle.tp_message.proofs.JudgeLaws.{moves_of_steps}
use Rattle.tp_message.proofs.stages.next_stage.Goals as goal

pub returns-in_err-next-clause-moves : goal.returns-in_err-next-clause-moves
returns-in_err-next-clause-moves c =
    let p = err_from_is_err_and c.from_residual.result c.from_residual.ensures.1 in
    rw (p.1, p.2) (moves_of_steps _ _ _ _ _ _ c.in_err-next.ensures.steps)
