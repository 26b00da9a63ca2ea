use Rattle.tp_command_line.proofs.Subcommands.{IfOk-map, argument_added}
use Rattle.tp_command_line.proofs.definition.pair_command.Goals as goal

pub returns : goal.returns
returns c =
    IfOk-map c.arg.result _ _ (λ r added. argument_added _ _ _ c.required_argument.result r c.in_ok-file_command.ensures c.required_argument.ensures.rule c.required_argument.ensures.local added) c.arg.ensures
