use Rattle.tp_online.specs.Showing.{FollowsServer}
use Rattle.tp_online.proofs.hosting.follow.Given as goal

-- the seat went on by the sessions so far
abbrev pub invariant-loop : goal.invariant-loop
invariant-loop g l = record {
  can : (goal.iterator-loop g).can_next l.iterator';
  finite : (goal.iterator-loop g).is_finite l.iterator';
  follows : FollowsServer l.fn.served.opened.id l.fn.seat l.seat;
}
