use Rattle.clap.specs.Words.{found_of}
use Rattle.tp_command_line.proofs.Found.{number_if_any}
use Rattle.tp_command_line.proofs.values.number_in.Goals as goal

-- the number is read
pub returns : goal.returns
returns c = number_if_any (found_of c.args.found.now) c.args.name.now c.args.id.now c.get_one.result c.requires.is_use c.requires.number c.get_one.ensures.none c.get_one.ensures.value
