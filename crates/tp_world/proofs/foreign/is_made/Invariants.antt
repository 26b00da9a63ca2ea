use Rattle.tp_world.proofs.Common.{◌≡◌, drop, has}
use Rattle.tp_world.proofs.foreign.is_made.Given as goal

-- what is left decides it
abbrev pub invariant-loop-other : goal.invariant-loop-other
invariant-loop-other l = has (drop l.other-index l.made) l.hash ≡ has l.made l.hash
