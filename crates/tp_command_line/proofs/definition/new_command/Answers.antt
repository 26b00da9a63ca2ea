use Rattle.tp_command_line.proofs.Subcommands.{IfOk-map, argument_added}
use Rattle.tp_command_line.proofs.definition.new_command.Goals as goal

pub returns : goal.returns
returns c =
    let waits = argument_added _ _ _ c.wait.result c.in_ok-arg.field-0 c.in_ok-file_command.ensures c.wait.ensures.rule c.wait.ensures.local c.in_ok-arg.ensures in
    IfOk-map c.arg-2.result _ _ (λ r added. argument_added _ _ _ c.key.result r waits c.key.ensures.rule c.key.ensures.local added) c.arg-2.ensures
