use Rattle.tp_online.specs.Watching.{note_of}
use Rattle.tp_online.proofs.WatchLaws.{was_shown}
use Rattle.tp_online.proofs.paging.show_peer.Goals as goal

pub returns-in-Ok-end_watched : goal.returns-in-Ok-end_watched
returns-in-Ok-end_watched g c =
    let seated = c.in_ok-served.field-0 in
    let e = c.in_ok-served.ensures in
    was_shown (g.R.Folders.saw c.args.rt.now) (note_of c.args.mirrored.now) c.args.peer c.in-Ok-end_watched.peer seated.served seated.seats.items c.in-Ok-show_counted.back.items seated.watch c.in-Ok-show_counted.watched c.args.hosting.now
    e.ok.0 e.ok.2 c.in-Ok-show_counted.ensures.went c.in-Ok-show_counted.ensures.watches c.in-Ok-end_watched.ensures.ok
