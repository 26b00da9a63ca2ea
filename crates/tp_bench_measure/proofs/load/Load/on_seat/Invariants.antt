use Rattle.std.proofs.Common.{◌≡◌}
use Rattle.tp_bench_measure.proofs.load.Load.on_seat.Given as goal

-- the seat is still one of this served peer
abbrev pub invariant-loop : goal.invariant-loop
invariant-loop g l = l.seat.served ≡ l.served.served
