use Rattle.tp_command_line.proofs.Subcommands.{IfOk-map, argument_added}
use Rattle.tp_command_line.proofs.definition.recover_command.Goals as goal

pub returns : goal.returns
returns c =
    let with1 = argument_added _ _ _ c.made_journal.result c.in_ok-arg.field-0 c.in_ok-file_command.ensures c.made_journal.ensures.rule c.made_journal.ensures.local c.in_ok-arg.ensures in
    let with2 = argument_added _ _ _ c.other_file.result c.in_ok-arg-2.field-0 with1 c.other_file.ensures.rule c.other_file.ensures.local c.in_ok-arg-2.ensures in
    IfOk-map c.arg-3.result _ _ (λ r added. argument_added _ _ _ c.flag.result r with2 c.flag.ensures.rule c.flag.ensures.local added) c.arg-3.ensures
