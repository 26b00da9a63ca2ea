use Rattle.tp_command_line.specs.Commands.{files_app, serve_shape, session_shape, sync_shape, web_shape}
use Rattle.tp_command_line.proofs.definition.textpeer_command.Goals as goal

pub returns : goal.returns
returns c =
    let served = c.with-served.ensures files_app serve_shape c.file_commands-on_files.ensures c.serve_command.ensures in
    let synced = c.with-synced.ensures _ sync_shape served c.sync_command.ensures in
    let held = c.with-held.ensures _ session_shape synced c.session_command.ensures in
    c.with.ensures _ web_shape held c.web_command.ensures
