use Rattle.std.proofs.Common.{subst}
use Rattle.tp_served.specs.Calls.{AreOf}
use Rattle.tp_online.proofs.PartLaws.{are_both}
use Rattle.tp_online.proofs.hosting.share_out.Goals as goal

-- each part is of the served peer's seats
pub returns-clause-of : goal.returns-clause-of
returns-clause-of g c =
    let served = c.args.served.now.served in
    let first = are_both served c.take_last.new.seats.items c.in_ok-following.following.items (subst (AreOf served) c.in_ok-following.ensures c.requires) in
    let second = are_both served c.take_last-2.new.seats.items c.in_ok-sessions.sessions.items (subst (AreOf served) c.in_ok-sessions.ensures first.0) in
    (second.0, second.1, first.1)
