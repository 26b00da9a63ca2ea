use Rattle.tp_command_line.proofs.Subcommands.{IfOk-map, argument_added}
use Rattle.tp_command_line.proofs.definition.load_command.Goals as goal

pub returns : goal.returns
returns c =
    let with1 = argument_added _ _ _ c.journal.result c.in_ok-arg.field-0 c.in_ok-value_command.ensures c.journal.ensures.rule c.journal.ensures.local c.in_ok-arg.ensures in
    IfOk-map c.arg-2.result _ _ (λ r added. argument_added _ _ _ c.wait.result r with1 c.wait.ensures.rule c.wait.ensures.local added) c.arg-2.ensures
