-- The ledger is the one that was made here.
use Rattle.tp_online.proofs.serving.hold_sessions.Given as goal

abbrev pub ghosts-hold_counted : goal.ghosts-hold_counted
ghosts-hold_counted g a = record { name = a.blank.name; parts = a.blank.parts }
