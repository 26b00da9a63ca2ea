use Rattle.tp_command_line.proofs.Subcommands.{IfOk-map, argument_added}
use Rattle.tp_command_line.proofs.definition.session_command.Goals as goal

pub returns : goal.returns
returns c =
    let with1 = argument_added _ _ _ c.flag.result c.in_ok-arg.field-0 c.in_ok-file_command.ensures c.flag.ensures.rule c.flag.ensures.local c.in_ok-arg.ensures in
    let waits = argument_added _ _ _ c.wait.result c.in_ok-arg-2.field-0 with1 c.wait.ensures.rule c.wait.ensures.local c.in_ok-arg-2.ensures in
    IfOk-map c.arg-3.result _ _ (λ r added. argument_added _ _ _ c.key.result r waits c.key.ensures.rule c.key.ensures.local added) c.arg-3.ensures
