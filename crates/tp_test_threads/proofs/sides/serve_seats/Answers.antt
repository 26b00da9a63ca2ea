use Rattle.tp_test_threads.proofs.LastSeat.{opened_are_of}
use Rattle.tp_test_threads.proofs.sides.serve_seats.Goals as goal

pub returns-in-Ok : goal.returns-in-Ok
returns-in-Ok g c = opened_are_of _ _ c.args.seats _ c.in-Ok.ensures.served.2
