use Rattle.tp_command_line.specs.Commands.{bare_app, check_shape, cursor_shape, diff_shape, edit_shape, graph_shape, heads_shape, import_shape, log_shape, mirror_shape, new_shape, status_shape, text_shape, update_shape}
use Rattle.tp_command_line.proofs.definition.journal_commands.Goals as goal

pub returns : goal.returns
returns c =
    let begun = c.with-begun.ensures bare_app new_shape c.program.ensures c.new_command.ensures in
    let edited = c.with-edited.ensures _ edit_shape begun c.edit_command.ensures in
    let updated = c.with-updated.ensures _ update_shape edited c.update_command.ensures in
    let imported = c.with-imported.ensures _ import_shape updated c.whole_text_command.ensures in
    let mirrored = c.with-mirrored.ensures _ mirror_shape imported c.mirror_command.ensures in
    let read = c.with-read.ensures _ text_shape mirrored c.text_command.ensures in
    let headed = c.with-headed.ensures _ heads_shape read c.file_command.ensures in
    let logged = c.with-logged.ensures _ log_shape headed c.log_command.ensures in
    let drawn = c.with-drawn.ensures _ graph_shape logged c.file_command-2.ensures in
    let compared = c.with-compared.ensures _ diff_shape drawn c.diff_command.ensures in
    let described = c.with-described.ensures _ status_shape compared c.file_command-3.ensures in
    let found = c.with-found.ensures _ cursor_shape described c.cursor_command.ensures in
    c.with.ensures _ check_shape found c.file_command-4.ensures
