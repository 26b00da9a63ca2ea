use Rattle.tp_command_line.specs.Commands.{edit_at_shape}
use Rattle.tp_command_line.proofs.Subcommands.{IfOk-map, argument_added}
use Rattle.tp_command_line.proofs.definition.edit_command.Goals as goal

pub returns : goal.returns
returns c =
    let text = argument_added edit_at_shape _ _ c.text.result c.in_ok-arg.field-0 c.in_ok-edit_at.ensures c.text.ensures.rule c.text.ensures.local c.in_ok-arg.ensures in
    let file = argument_added _ _ _ c.text_file.result c.in_ok-arg-2.field-0 text c.text_file.ensures.rule c.text_file.ensures.local c.in_ok-arg-2.ensures in
    let time = argument_added _ _ _ c.time.result c.in_ok-arg-3.field-0 file c.time.ensures.rule c.time.ensures.local c.in_ok-arg-3.ensures in
    let message = argument_added _ _ _ c.message.result c.in_ok-arg-4.field-0 time c.message.ensures.rule c.message.ensures.local c.in_ok-arg-4.ensures in
    let waits = argument_added _ _ _ c.wait.result c.in_ok-arg-5.field-0 message c.wait.ensures.rule c.wait.ensures.local c.in_ok-arg-5.ensures in
    IfOk-map c.arg-6.result _ _ (λ r added. argument_added _ _ _ c.key.result r waits c.key.ensures.rule c.key.ensures.local added) c.arg-6.ensures
