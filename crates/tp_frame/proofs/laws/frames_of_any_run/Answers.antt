use Rattle.tp_frame.proofs.StreamLaws.{begins_of_run, frames_of_run}
use Rattle.tp_frame.proofs.laws.frames_of_any_run.Goals as goal

pub returns-clause-so_far : goal.returns-clause-so_far
returns-clause-so_far c = begins_of_run

pub returns-clause-all : goal.returns-clause-all
returns-clause-all c = frames_of_run
