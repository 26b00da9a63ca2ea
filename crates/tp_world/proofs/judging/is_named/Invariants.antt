use Rattle.tp_world.proofs.Common.{◌≡◌, drop, is_named}
use Rattle.tp_world.proofs.judging.is_named.Given as goal

-- what is left decides it
abbrev pub invariant-loop-named : goal.invariant-loop-named
invariant-loop-named l = is_named (drop l.named-index l.used) l.fn.actor ≡ is_named l.used l.fn.actor
