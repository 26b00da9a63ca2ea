use Rattle.std.proofs.Common.{◌≡◌, ℕ, Option, Some, arith, subst}
use Rattle.tp_online.specs.Sessions.{MayMeet}
use Rattle.tp_online.proofs.FollowLaws.{followed_none, followed_once, stops_before, stops_within}
use Rattle.tp_online.proofs.following.follow_once.Goals as goal

-- one session was held, and its line was written
pub returns-in-Ok-clause-ok : goal.returns-in-Ok-clause-ok
returns-in-Ok-clause-ok g c =
    let is : c.in-Ok-Some.field-0 ≡ Some c.in-Ok-Some.applied = grind arith in
    let met = subst (λ (o : Option ℕ). MayMeet (g.R.Folders.saw c.args.rt.now) c.args.file.now c.args.key o) is c.in-Ok-Some.ensures.met in
    followed_once (g.R.Folders.saw c.args.rt.now) c.args.file.now c.args.key c.in-Ok-Some.applied (g.W.Write.contents c.args.out.now) (g.W.Write.contents c.tell_met.new.out)
    met c.in-Ok.ensures.ok

-- or a part of it
pub returns-in-Err-tell_met-clause-err : goal.returns-in-Err-tell_met-clause-err
returns-in-Err-tell_met-clause-err g c =
    let is : c.in-Ok-Some.field-0 ≡ Some c.in-Ok-Some.applied = grind arith in
    let met = subst (λ (o : Option ℕ). MayMeet (g.R.Folders.saw c.args.rt.now) c.args.file.now c.args.key o) is c.in-Ok-Some.ensures.met in
    stops_within (g.R.Folders.saw c.args.rt.now) c.args.file.now c.args.key c.in-Ok-Some.applied (g.W.Write.contents c.args.out.now) (g.W.Write.contents c.tell_met.new.out)
    met c.in-Err-tell_met.ensures.err

-- none was held
pub returns-in-Ok-None-clause-ok : goal.returns-in-Ok-None-clause-ok
returns-in-Ok-None-clause-ok g c = followed_none (g.R.Folders.saw c.args.rt.now) c.args.file.now c.args.key (g.W.Write.contents c.args.out.now)

pub returns-in-Err-clause-err : goal.returns-in-Err-clause-err
returns-in-Err-clause-err g c = stops_before (g.R.Folders.saw c.args.rt.now) c.args.file.now c.args.key (g.W.Write.contents c.args.out.now)
