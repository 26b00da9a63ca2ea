use Rattle.tp_command_line.proofs.Subcommands.{IfOk-map, argument_added}
use Rattle.tp_command_line.proofs.definition.whole_text_command.Goals as goal

pub returns : goal.returns
returns c =
    let with1 = argument_added _ _ _ c.time.result c.in_ok-arg.field-0 c.in_ok-pair_command.ensures c.time.ensures.rule c.time.ensures.local c.in_ok-arg.ensures in
    let with2 = argument_added _ _ _ c.message.result c.in_ok-arg-2.field-0 with1 c.message.ensures.rule c.message.ensures.local c.in_ok-arg-2.ensures in
    let waits = argument_added _ _ _ c.wait.result c.in_ok-arg-3.field-0 with2 c.wait.ensures.rule c.wait.ensures.local c.in_ok-arg-3.ensures in
    IfOk-map c.arg-4.result _ _ (λ r added. argument_added _ _ _ c.key.result r waits c.key.ensures.rule c.key.ensures.local added) c.arg-4.ensures
