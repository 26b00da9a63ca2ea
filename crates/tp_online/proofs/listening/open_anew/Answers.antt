use Rattle.tp_online.proofs.FollowLaws.{reports_more}
use Rattle.tp_online.proofs.listening.open_anew.Goals as goal

pub returns-in-Ok-clause-early : goal.returns-in-Ok-clause-early
returns-in-Ok-clause-early g c =
    reports_more (g.R.Folders.saw c.args.rt.now) c.args.source.now.file.now (g.E.Write.contents c.args.err.now) (g.E.Write.contents c.loop.err) (g.E.Write.contents c.open_and_report.new.err) c.loop.invariant c.open_and_report.ensures.early

pub loop-preserved : goal.loop-preserved
loop-preserved g c =
    reports_more (g.R.Folders.saw c.args.rt.now) c.args.source.now.file.now (g.E.Write.contents c.args.err.now) (g.E.Write.contents c.loop.err) (g.E.Write.contents c.open_and_report.new.err) c.loop.invariant c.open_and_report.ensures.early
