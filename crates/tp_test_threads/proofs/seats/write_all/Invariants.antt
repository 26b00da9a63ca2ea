use Rattle.std.proofs.Common.{◌≡◌}
use Rattle.tp_test_threads.proofs.seats.write_all.Given as goal

-- the seat is still one of this served peer
abbrev pub invariant-loop-time : goal.invariant-loop-time
invariant-loop-time g l = l.seat.served ≡ l.served.served
