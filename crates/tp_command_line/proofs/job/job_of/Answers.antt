use Rattle.tp_command_line.proofs.Found.{no_other}
use Rattle.tp_command_line.proofs.job.job_of.Goals as goal

-- there is no other subcommand
pub unreachable-requires : goal.unreachable-requires
unreachable-requires c = no_other _ _ c.requires (assumption c.in_default)
