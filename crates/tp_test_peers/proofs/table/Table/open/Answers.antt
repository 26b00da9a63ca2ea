use Rattle.tp_served.proofs.SeatLaws.{opened_are}
use Rattle.tp_test_peers.proofs.table.Table.open.Goals as goal

pub table_of-requires : goal.table_of-requires
table_of-requires c = opened_are c.in-Ok.served.served c.args.peer c.args.seats c.in-Ok.seats.items c.in-Ok.ensures.served.2
