use Rattle.std.proofs.Common.{[], arith, refl}
use Rattle.tp_online.proofs.FollowLaws.{followed_more, followed_none, reports_more, stops_after}
use Rattle.tp_online.proofs.following.follow_file.Goals as goal

-- no session was held yet
pub loop-turn-init : goal.loop-turn-init
loop-turn-init g c = (omega arith, c.requires, ([], refl), tt, followed_none (g.R.Folders.saw c.args.rt.now) c.args.file.now c.args.key (g.W.Write.contents c.args.out.now))

pub returns-in_err-held-clause-early : goal.returns-in_err-held-clause-early
returns-in_err-held-clause-early g c =
    reports_more (g.R.Folders.saw c.args.rt.now) c.args.file.now (g.E.Write.contents c.args.err.now) (g.E.Write.contents c.loop-turn.err) (g.E.Write.contents c.follow_once.new.err)
    c.loop-turn.invariant.2 c.in_err-held.ensures.early

pub returns-in_err-held-clause-err : goal.returns-in_err-held-clause-err
returns-in_err-held-clause-err g c =
    stops_after (g.R.Folders.saw c.args.rt.now) c.args.file.now c.args.key c.from_residual.result c.loop-turn.held (g.W.Write.contents c.args.out.now) (g.W.Write.contents c.loop-turn.out) (g.W.Write.contents c.follow_once.new.out)
    c.loop-turn.invariant.4 c.in_err-held.ensures.err

-- one session more was held, or none
pub loop-turn-preserved : goal.loop-turn-preserved
loop-turn-preserved g c =
    let far = c.loop-turn.invariant in
    let few = c.in_ok-held.ensures.few in (
      grind arith,
      c.in_ok-held.ensures.cuts,
      reports_more (g.R.Folders.saw c.args.rt.now) c.args.file.now (g.E.Write.contents c.args.err.now) (g.E.Write.contents c.loop-turn.err) (g.E.Write.contents c.follow_once.new.err) far.2 c.in_ok-held.ensures.early,
      c.in_ok-held.ensures.idle,
      followed_more (g.R.Folders.saw c.args.rt.now) c.args.file.now c.args.key c.loop-turn.held c.in_ok-held.field-0 (g.W.Write.contents c.args.out.now) (g.W.Write.contents c.loop-turn.out) (g.W.Write.contents c.follow_once.new.out)
          far.4 c.in_ok-held.ensures.ok,
    )
