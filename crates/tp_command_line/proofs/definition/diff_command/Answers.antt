use Rattle.tp_command_line.proofs.Subcommands.{IfOk-map, argument_added}
use Rattle.tp_command_line.proofs.definition.diff_command.Goals as goal

pub returns : goal.returns
returns c =
    let with1 = argument_added _ _ _ c.hashes.result c.in_ok-arg.field-0 c.in_ok-file_command.ensures c.hashes.ensures.rule c.hashes.ensures.local c.in_ok-arg.ensures in
    let with2 = argument_added _ _ _ c.later_heads.result c.in_ok-arg-2.field-0 with1 c.later_heads.ensures.rule c.later_heads.ensures.local c.in_ok-arg-2.ensures in
    let with3 = argument_added _ _ _ c.context.result c.in_ok-arg-3.field-0 with2 c.context.ensures.rule c.context.ensures.local c.in_ok-arg-3.ensures in
    IfOk-map c.arg-4.result _ _ (λ r added. argument_added _ _ _ c.words.result r with3 c.words.ensures.rule c.words.ensures.local added) c.arg-4.ensures
