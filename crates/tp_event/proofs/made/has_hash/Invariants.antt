use Rattle.tp_event.proofs.Common.{◌≡◌, drop, has}
use Rattle.tp_event.proofs.made.has_hash.Given as goal

-- what is left decides it
abbrev pub invariant-loop-change : goal.invariant-loop-change
invariant-loop-change l = has (drop l.change-index l.changes) l.fn.hash ≡ has l.changes l.fn.hash
