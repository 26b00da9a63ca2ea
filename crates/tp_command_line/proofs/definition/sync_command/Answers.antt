use Rattle.tp_command_line.proofs.Subcommands.{IfOk-map, argument_added}
use Rattle.tp_command_line.proofs.definition.sync_command.Goals as goal

pub returns : goal.returns
returns c =
    let with1 = argument_added _ _ _ c.follow.result c.in_ok-arg.field-0 c.in_ok-pair_command.ensures c.follow.ensures.rule c.follow.ensures.local c.in_ok-arg.ensures in
    let with2 = argument_added _ _ _ c.sessions.result c.in_ok-arg-2.field-0 with1 c.sessions.ensures.rule c.sessions.ensures.local c.in_ok-arg-2.ensures in
    let with3 = argument_added _ _ _ c.patience.result c.in_ok-arg-3.field-0 with2 c.patience.ensures.rule c.patience.ensures.local c.in_ok-arg-3.ensures in
    let with4 = argument_added _ _ _ c.option.result c.in_ok-arg-4.field-0 with3 c.option.ensures.rule c.option.ensures.local c.in_ok-arg-4.ensures in
    let with5 = argument_added _ _ _ c.take.result c.in_ok-arg-5.field-0 with4 c.take.ensures.rule c.take.ensures.local c.in_ok-arg-5.ensures in
    let waits = argument_added _ _ _ c.wait.result c.in_ok-arg-6.field-0 with5 c.wait.ensures.rule c.wait.ensures.local c.in_ok-arg-6.ensures in
    IfOk-map c.arg-7.result _ _ (λ r added. argument_added _ _ _ c.key.result r waits c.key.ensures.rule c.key.ensures.local added) c.arg-7.ensures
