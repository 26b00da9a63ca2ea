use Rattle.std.proofs.Common.{◌≡◌, drop}
use Rattle.tp_program.specs.Rescuing.{first_left}
use Rattle.tp_program.proofs.rescuing.first_left.Given as goal

-- none was left out so far
abbrev pub invariant-loop-change : goal.invariant-loop-change
invariant-loop-change l = first_left l.graph.applied (drop l.change-index l.changes) ≡ first_left l.graph.applied l.changes
