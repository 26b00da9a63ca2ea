use Rattle.tp_frame.proofs.PartLaws.{parts_begin, parts_all}
use Rattle.tp_frame.proofs.laws.parts_of_any_run.Goals as goal

pub returns-clause-so_far : goal.returns-clause-so_far
returns-clause-so_far c = parts_begin

pub returns-clause-all : goal.returns-clause-all
returns-clause-all c = parts_all
