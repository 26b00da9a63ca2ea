use Rattle.tp_served.proofs.SeatLaws.{last_is}
use Rattle.tp_test_peers.proofs.table.table_of.Goals as goal

pub invariant_of-result : goal.invariant_of-result
invariant_of-result c = let parted = last_is c.args.served.served _ c.pop.new.self.items c.in-Some.seat c.in-Some.ensures.items c.requires in (parted.1, parted.0)
