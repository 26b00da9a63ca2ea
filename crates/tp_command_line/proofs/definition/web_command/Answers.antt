use Rattle.tp_command_line.proofs.Subcommands.{IfOk-map, argument_added}
use Rattle.tp_command_line.proofs.definition.web_command.Goals as goal

pub returns : goal.returns
returns c =
    let with1 = argument_added _ _ _ c.page.result c.in_ok-arg.field-0 c.in_ok-file_command.ensures c.page.ensures.rule c.page.ensures.local c.in_ok-arg.ensures in
    let with2 = argument_added _ _ _ c.option.result c.in_ok-arg-2.field-0 with1 c.option.ensures.rule c.option.ensures.local c.in_ok-arg-2.ensures in
    let with3 = argument_added _ _ _ c.server.result c.in_ok-arg-3.field-0 with2 c.server.ensures.rule c.server.ensures.local c.in_ok-arg-3.ensures in
    let with4 = argument_added _ _ _ c.note_beside.result c.in_ok-arg-4.field-0 with3 c.note_beside.ensures.rule c.note_beside.ensures.local c.in_ok-arg-4.ensures in
    let with5 = argument_added _ _ _ c.take.result c.in_ok-arg-5.field-0 with4 c.take.ensures.rule c.take.ensures.local c.in_ok-arg-5.ensures in
    let waits = argument_added _ _ _ c.wait.result c.in_ok-arg-6.field-0 with5 c.wait.ensures.rule c.wait.ensures.local c.in_ok-arg-6.ensures in
    IfOk-map c.arg-7.result _ _ (λ r added. argument_added _ _ _ c.key.result r waits c.key.ensures.rule c.key.ensures.local added) c.arg-7.ensures
