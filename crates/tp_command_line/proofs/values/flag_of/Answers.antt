use Rattle.clap.specs.Words.{found_of, rows_of}
use Rattle.tp_command_line.proofs.Found.{flag_given, flag_read}
use Rattle.tp_command_line.proofs.Uses.{always_given}
use Rattle.tp_command_line.proofs.values.flag_of.Goals as goal

-- the flag is read
pub returns : goal.returns
returns c =
    let id = c.args.id.now in
    let given = flag_given id _ (always_given c.args.name.now id (rows_of (found_of c.args.found.now)) c.requires.is_use c.requires.given) c.requires.flag in
    flag_read given.0 c.get_flag.result (found_of c.args.found.now) id given.1 c.get_flag.ensures.value c.get_flag.ensures.other
