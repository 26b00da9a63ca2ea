use Rattle.std.proofs.Common.{inr}
use Rattle.tp_online.proofs.FollowLaws.{reports_more, reports_once}
use Rattle.tp_online.proofs.paging.show_source.Goals as goal

-- what was cut off was said as it began, and then each time that it was opened anew
pub returns-in-Ok-clause-early : goal.returns-in-Ok-clause-early
returns-in-Ok-clause-early g c =
    let saw = g.R.Folders.saw c.args.rt.now in
    let file = c.args.source.now.file.now in
    reports_more saw file (g.E.Write.contents c.args.err.now) (g.E.Write.contents c.report.new.err) (g.E.Write.contents c.show_at.new.err)
    (reports_once saw file (g.E.Write.contents c.args.err.now) (g.E.Write.contents c.report.new.err) c.listen.new.cut (inr c.in-Ok.ensures.cuts) c.report.ensures)
    c.show_at.ensures.early
