use Rattle.tp_online.proofs.FollowLaws.{reports_once}
use Rattle.tp_online.proofs.following.meet_and_report.Goals as goal

-- the journal was opened once
pub returns-in-Ok-clause-early : goal.returns-in-Ok-clause-early
returns-in-Ok-clause-early g c =
    reports_once (g.R.Folders.saw c.args.rt.now) c.args.file.now (g.E.Write.contents c.args.err.now) (g.E.Write.contents c.report.new.err) c.meet.new.cut c.in-Ok.ensures.cuts c.report.ensures
