use Rattle.tp_online.specs.Watching.{note_of}
use Rattle.tp_online.proofs.WatchLaws.{was_served}
use Rattle.tp_online.proofs.serving.hold_sessions.Goals as goal

pub returns-in-Ok-end_watched : goal.returns-in-Ok-end_watched
returns-in-Ok-end_watched g c =
    let seated = c.in_ok-served.field-0 in
    let e = c.in_ok-served.ensures in
    was_served (g.R.Folders.saw c.args.rt.now) (note_of c.args.mirrored.now) c.args.peer c.in-Ok-end_watched.peer seated.served seated.seats.items c.in-Ok.back.items seated.watch c.in-Ok.watched c.args.holding.now.how.now.workers c.seats_for.result
    e.ok.0 e.ok.1 c.seats_for.ensures e.ok.2 c.in-Ok.ensures.sat c.in-Ok.ensures.watches c.in-Ok-end_watched.ensures.ok
