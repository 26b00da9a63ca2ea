use Rattle.std.proofs.Common.{rules}
use Rattle.tp_web.specs.Visiting.{AllAttend}
use Rattle.tp_web.proofs.Attending.{all_still_of}
use Rattle.tp_web.proofs.serving.serve_windows.Goals as goal

pub returns-in-Ok-accepted-clause-of : goal.returns-in-Ok-accepted-clause-of
returns-in-Ok-accepted-clause-of g c =
    let went : AllAttend c.args.seats.items c.join-seats.result.0.items = search rules in
    all_still_of c.args.served.now.served c.args.seats.items c.join-seats.result.0.items c.requires went

pub returns-clause-err : goal.returns-clause-err
returns-clause-err g c =
    let went : AllAttend c.args.seats.items c.join-seats.result.0.items = search rules in
    (went, all_still_of c.args.served.now.served c.args.seats.items c.join-seats.result.0.items c.requires went, search rules)
