use Rattle.std.proofs.Common.{◌≡◌, List, ◌∷◌, [], ◌++◌}
use Rattle.tp_served.proofs.SeatLaws.{last_is}
use Rattle.tp_online.proofs.PartLaws.{popped}
use Rattle.tp_online.proofs.hosting.follow_beside.Goals as goal

-- the seat that was taken is one of the served peer's
pub follow-requires : goal.follow-requires
follow-requires g c =
    (last_is c.args.served.now.served c.args.seats.items c.pop.new.self.items c.in-Some-pop.seat
    (popped c.args.seats.items c.pop.new.self.items c.pop.result c.in-Some-pop.seat c.in-Some-pop.is c.pop.ensures.items) c.requires.of).1
