use Rattle.tp_command_line.proofs.Subcommands.{IfOk-map, argument_added}
use Rattle.tp_command_line.proofs.definition.edit_at.Goals as goal

pub returns : goal.returns
returns c =
    let with1 = argument_added _ _ _ c.count.result c.in_ok-arg.field-0 c.in_ok-file_command.ensures c.count.ensures.rule c.count.ensures.local c.in_ok-arg.ensures in
    IfOk-map c.arg-2.result _ _ (λ r added. argument_added _ _ _ c.count-2.result r with1 c.count-2.ensures.rule c.count-2.ensures.local added) c.arg-2.ensures
