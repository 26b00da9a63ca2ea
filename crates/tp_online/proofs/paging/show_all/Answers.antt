use Rattle.std.proofs.Common.{[], refl}
use Rattle.tp_online.proofs.FollowLaws.{reports_more}
use Rattle.tp_online.proofs.paging.show_all.Goals as goal

pub loop-init : goal.loop-init
loop-init g c = (c.requires.opens, ([], refl))

-- the peer that was shown to the end is the one that was opened last
pub returns-in-Ok-clause-shown : goal.returns-in-Ok-clause-shown
returns-in-Ok-clause-shown g c =
    let opened = c.loop.invariant.0 in
    (opened.0, opened.1, record { peer = c.loop.peer; opens = opened.2; shown = c.in-Ok.ensures })

pub loop-preserved : goal.loop-preserved
loop-preserved g c = (
  c.in_ok-peer-in-Err.ensures.opens,
  reports_more (g.R.Folders.saw c.args.rt.now) c.args.source.now.file.now (g.E.Write.contents c.args.err.now) (g.E.Write.contents c.loop.err) (g.E.Write.contents c.open_anew.new.err) c.loop.invariant.1 c.in_ok-peer-in-Err.ensures.early,
)

pub returns-in_err-peer-in-Err-clause-early : goal.returns-in_err-peer-in-Err-clause-early
returns-in_err-peer-in-Err-clause-early g c =
    reports_more (g.R.Folders.saw c.args.rt.now) c.args.source.now.file.now (g.E.Write.contents c.args.err.now) (g.E.Write.contents c.loop.err) (g.E.Write.contents c.open_anew.new.err) c.loop.invariant.1 c.in_err-peer-in-Err.ensures.early
