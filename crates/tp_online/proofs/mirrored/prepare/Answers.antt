use Rattle.tp_online.proofs.FollowLaws.{reports_once}
use Rattle.tp_online.proofs.mirrored.prepare.Goals as goal

-- what was cut off was said
pub returns-in-Ok-clause-early : goal.returns-in-Ok-clause-early
returns-in-Ok-clause-early g c =
    reports_once (g.R.Folders.saw c.args.rt.now) c.args.file.now (g.E.Write.contents c.args.err.now) (g.E.Write.contents c.report.new.err) c.begin.new.cut c.begin.ensures.may_cut c.report.ensures
