use Rattle.tp_world.proofs.Common.{take, AllIn}
use Rattle.tp_world.proofs.foreign.are_made.Given as goal

-- those so far
abbrev pub invariant-loop-change : goal.invariant-loop-change
invariant-loop-change l = AllIn (take l.change-index l.changes) l.fn.made
