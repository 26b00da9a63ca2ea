-- The ledger is the one that was made here.
use Rattle.tp_online.proofs.paging.show_peer.Given as goal

abbrev pub ghosts-show_counted : goal.ghosts-show_counted
ghosts-show_counted g a = record { name = a.blank.name; parts = a.blank.parts }
