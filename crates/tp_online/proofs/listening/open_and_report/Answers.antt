use Rattle.tp_online.proofs.FollowLaws.{may_have_cut, reports_once}
use Rattle.tp_online.proofs.listening.open_and_report.Goals as goal

-- what was cut off was said
pub returns-clause-early : goal.returns-clause-early
returns-clause-early g c =
    let saw = g.R.Folders.saw c.args.rt.now in
    let file = c.args.source.now.file.now in
    reports_once saw file (g.E.Write.contents c.args.err.now) (g.E.Write.contents c.report.new.err) c.open_source-opened.new.cut
    (may_have_cut saw file c.open_source-opened.result c.open_source-opened.new.cut c.open_source-opened.ensures.cuts c.open_source-opened.ensures.may_cut) c.report.ensures
