-- The ledger is the one that was made here.
use Rattle.tp_patient.proofs.tests.places_and_refusals.Given as goal

abbrev pub ghosts-see : goal.ghosts-see
ghosts-see g a = record { name = a.blank.name; parts = a.blank.parts }
