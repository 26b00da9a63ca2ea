use Rattle.std.specs.Prelude.{◌≡◌}
use Rattle.std.proofs.Common.{arith, rules}
use Rattle.tp_net.proofs.SeatLists.{seat_is_of}
use Rattle.tp_web.proofs.serving.work_on_all.Goals as goal

pub for_each_mut-requires-clause-accepts : goal.for_each_mut-requires-clause-accepts
for_each_mut-requires-clause-accepts g c lifetimes live i p below is =
    let lent : c.as_mut_slice.result.now ≡ c.args.seats.items = search rules in
    let at = seat_is_of c.args.served.now.served c.args.seats.items i p.now c.requires in
    grind arith
