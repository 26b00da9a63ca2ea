use Rattle.tp_net.proofs.Common.{AllSit}
use Rattle.std.proofs.Common.{rules}
use Rattle.tp_net.proofs.SeatLists.{still_of}
use Rattle.tp_net.proofs.serving.serve.Goals as goal

pub returns-in-Ok-accepted-clause-of : goal.returns-in-Ok-accepted-clause-of
returns-in-Ok-accepted-clause-of g c =
    let sit : AllSit c.args.served.now.opened.id c.args.seats.items c.join-seats.result.0.items = search rules in
    still_of _ c.args.served.now.served c.args.seats.items c.join-seats.result.0.items c.requires sit

pub returns-in-Err-clause-err : goal.returns-in-Err-clause-err
returns-in-Err-clause-err g c =
    let sit : AllSit c.args.served.now.opened.id c.args.seats.items c.join-seats.result.0.items = search rules in
    (sit, still_of _ c.args.served.now.served c.args.seats.items c.join-seats.result.0.items c.requires sit, search rules)
