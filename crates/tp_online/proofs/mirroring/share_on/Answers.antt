use Rattle.std.proofs.Common.{[], arith, refl}
use Rattle.tp_online.proofs.FollowLaws.{followed_more, followed_none, stops_after, stops_before}
use Rattle.tp_online.proofs.MirrorLaws.{may_cut_at, said_at, shares_last, shares_more, shares_nothing, stops_here}
use Rattle.tp_online.proofs.mirroring.share_on.Goals as goal

-- no session was held yet
pub loop-turn-init : goal.loop-turn-init
loop-turn-init g c = (
  omega arith,
  c.requires.cut,
  shares_nothing (g.R.Folders.saw c.args.rt.now) c.args.file.now (g.E.Write.contents c.args.err.now),
  tt,
  followed_none (g.R.Folders.saw c.args.rt.now) c.args.file.now c.args.key (g.W.Write.contents c.args.out.now),
)

-- a turn was refused
pub returns-in_err-look_and_do-clause-may_cut : goal.returns-in_err-look_and_do-clause-may_cut
returns-in_err-look_and_do-clause-may_cut g c = may_cut_at c.from_residual.result (g.R.Folders.saw c.args.rt.now) _ _ c.requires.file _ c.in_err-look_and_do.ensures.may_cut

pub returns-in_err-look_and_do-clause-told : goal.returns-in_err-look_and_do-clause-told
returns-in_err-look_and_do-clause-told g c =
    let saw = g.R.Folders.saw c.args.rt.now in
    shares_last saw c.args.file.now (g.E.Write.contents c.args.err.now) (g.E.Write.contents c.loop-turn.err) (g.E.Write.contents c.look_and_do.new.err) c.loop-turn.invariant.2
    (said_at saw _ _ c.requires.file _ _ c.in_err-look_and_do.ensures.told)

pub returns-in_err-look_and_do-clause-err : goal.returns-in_err-look_and_do-clause-err
returns-in_err-look_and_do-clause-err g c =
    let saw = g.R.Folders.saw c.args.rt.now in
    stops_after saw c.args.file.now c.args.key c.from_residual.result c.loop-turn.held (g.W.Write.contents c.args.out.now) (g.W.Write.contents c.loop-turn.out) (g.W.Write.contents c.loop-turn.out)
    c.loop-turn.invariant.4 (stops_before saw c.args.file.now c.args.key (g.W.Write.contents c.loop-turn.out))

-- a session was refused
pub returns-in_err-met-clause-told : goal.returns-in_err-met-clause-told
returns-in_err-met-clause-told g c =
    let saw = g.R.Folders.saw c.args.rt.now in
    shares_more saw c.args.file.now (g.E.Write.contents c.args.err.now) (g.E.Write.contents c.loop-turn.err) (g.E.Write.contents c.look_and_do.new.err) (g.E.Write.contents c.follow_once.new.err)
    c.loop-turn.invariant.2 (said_at saw _ _ c.requires.file _ _ c.in_ok-look_and_do.ensures.told) c.in_err-met.ensures.early

pub returns-in_err-met-clause-err : goal.returns-in_err-met-clause-err
returns-in_err-met-clause-err g c =
    stops_after (g.R.Folders.saw c.args.rt.now) c.args.file.now c.args.key c.from_residual-in_err-met.result c.loop-turn.held (g.W.Write.contents c.args.out.now) (g.W.Write.contents c.loop-turn.out) (g.W.Write.contents c.follow_once.new.out)
    c.loop-turn.invariant.4 c.in_err-met.ensures.err

-- one session more was held, or none
pub loop-turn-preserved : goal.loop-turn-preserved
loop-turn-preserved g c =
    let far = c.loop-turn.invariant in
    let few = c.in_ok-met.ensures.few in
    let saw = g.R.Folders.saw c.args.rt.now in (
      grind arith,
      c.in_ok-met.ensures.cuts,
      shares_more saw c.args.file.now (g.E.Write.contents c.args.err.now) (g.E.Write.contents c.loop-turn.err) (g.E.Write.contents c.look_and_do.new.err) (g.E.Write.contents c.follow_once.new.err) far.2
          (said_at saw _ _ c.requires.file _ _ c.in_ok-look_and_do.ensures.told) c.in_ok-met.ensures.early,
      c.in_ok-met.ensures.idle,
      followed_more saw c.args.file.now c.args.key c.loop-turn.held c.in_ok-met.met (g.W.Write.contents c.args.out.now) (g.W.Write.contents c.loop-turn.out) (g.W.Write.contents c.follow_once.new.out)
          far.4 c.in_ok-met.ensures.ok,
    )

-- as many turns were had as can be counted
pub returns-clause-err : goal.returns-clause-err
returns-clause-err g c =
    stops_here (g.R.Folders.saw c.args.rt.now) c.args.file.now c.args.key c.loop-turn.held (g.W.Write.contents c.args.out.now) (g.W.Write.contents c.loop-turn.out) c.loop-turn.invariant.4
