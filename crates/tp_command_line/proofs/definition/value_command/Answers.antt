use Rattle.std.specs.Prelude.{[]}
use Rattle.tp_command_line.specs.Commands.{with_rules}
use Rattle.tp_command_line.proofs.Subcommands.{IfOk-map, argument_added}
use Rattle.tp_command_line.proofs.definition.value_command.Goals as goal

pub returns : goal.returns
returns c =
    IfOk-map c.arg.result _ _ (λ r added. argument_added (with_rules c.args.name.now []) _ _ c.required_argument.result r c.bare_command.ensures c.required_argument.ensures.rule c.required_argument.ensures.local added) c.arg.ensures
