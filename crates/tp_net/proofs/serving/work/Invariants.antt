use Rattle.tp_net.proofs.Common.{Sits}
use Rattle.tp_net.proofs.serving.work.Given as goal

-- the seat went on by the sessions so far
abbrev pub invariant-loop : goal.invariant-loop
invariant-loop g l = record {
  can : (goal.iterator-loop g).can_next l.iterator';
  finite : (goal.iterator-loop g).is_finite l.iterator';
  sits : Sits l.fn.served.opened.id l.fn.seat l.seat;
}
