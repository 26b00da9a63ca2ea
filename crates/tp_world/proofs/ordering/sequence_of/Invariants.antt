use Rattle.tp_world.proofs.Common.{take, inserts, IsInOrder}
use Rattle.tp_world.proofs.ordering.sequence_of.Given as goal

-- the elements of the changes so far are in
abbrev pub invariant-loop-change : goal.invariant-loop-change
invariant-loop-change g l = IsInOrder (inserts (take l.change-index l.changes)) (g.S.Sequence.placed l.sequence)
