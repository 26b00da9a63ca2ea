use Rattle.tp_test_threads.proofs.LastSeat.{last_is_of}
use Rattle.tp_test_threads.proofs.sides.text_of.Goals as goal

pub read-requires : goal.read-requires
read-requires g c = last_is_of c.args.served.now.served c.args.seats.items c.pop.new.self.items c.in-Some.seat c.requires c.in-Some.ensures.items
