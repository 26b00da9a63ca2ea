use Rattle.tp_receive.proofs.Common.{◌≡◌, drop}
use Rattle.tp_history.specs.Named as named
use Rattle.tp_receive.proofs.take.has_hash.Given as goal

abbrev pub invariant-loop-change : goal.invariant-loop-change
invariant-loop-change l = named.has (drop l.change-index l.changes) l.fn.hash ≡ named.has l.changes l.fn.hash
