use Rattle.std.specs.String.{string_bytes}
use Rattle.tp_mirroring.proofs.job.turn_on.Given as goal

-- the turn sees what is seen here, of this NOTE, and begins with this peer
abbrev pub ghosts-do_turn : goal.ghosts-do_turn
ghosts-do_turn g a = record { saw = g.D.Folders.saw a.rt.now; note = string_bytes a.paths.now.note; first = a.peer }
