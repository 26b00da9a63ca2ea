use Rattle.std.proofs.Common.{◌≡◌, take}
use Rattle.tp_mirror.proofs.state.copies_of_moved.Given as goal

-- the copies so far are those of the first ones
abbrev pub invariant-loop-away : goal.invariant-loop-away
invariant-loop-away l = l.copies ≡ take l.away-index l.moved
