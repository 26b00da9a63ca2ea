use Rattle.tp_command_line.specs.Commands.{journals_app, load_shape, merge_shape, recover_shape, save_shape, show_shape, simulate_shape}
use Rattle.tp_command_line.proofs.definition.file_commands.Goals as goal

pub returns : goal.returns
returns c =
    let merged = c.with-merged.ensures journals_app merge_shape c.journal_commands-journals.ensures c.merge_command.ensures in
    let saved = c.with-saved.ensures _ save_shape merged c.pair_command.ensures in
    let loaded = c.with-loaded.ensures _ load_shape saved c.load_command.ensures in
    let recovered = c.with-recovered.ensures _ recover_shape loaded c.recover_command.ensures in
    let shown = c.with-shown.ensures _ show_shape recovered c.value_command.ensures in
    c.with.ensures _ simulate_shape shown c.value_command-2.ensures
