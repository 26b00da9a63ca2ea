use Rattle.tp_web.specs.Visiting.{Attends}
use Rattle.tp_web.proofs.serving.work.Given as goal

-- the seat went on by the windows so far
abbrev pub invariant-loop : goal.invariant-loop
invariant-loop g l = record {
  can : (goal.iterator-loop g).can_next l.iterator';
  finite : (goal.iterator-loop g).is_finite l.iterator';
  attends : Attends l.fn.seat l.seat;
}
