use Rattle.tp_receive.proofs.Common.{take, IsHashSetOf}
use Rattle.tp_receive.proofs.hashes.list_of.Given as goal

abbrev pub invariant-loop-change : goal.invariant-loop-change
invariant-loop-change l = IsHashSetOf l.hashes.items (take l.change-index l.changes)
