-- The ledger is the one that was made here.
use Rattle.tp_patient.proofs.tests.all_are_freed.Given as goal

abbrev pub ghosts-free_three : goal.ghosts-free_three
ghosts-free_three g a = record { name = a.blank.name; parts = a.blank.parts }
