use Rattle.std.specs.List.{AllWithin}
use Rattle.tp_opid.specs.Order.{Below}
use Rattle.tp_rga.proofs.placed.past_greater.Given as goal

-- what was passed is above the identifier
abbrev pub invariant-loop-i : goal.invariant-loop-i
invariant-loop-i l = AllWithin (λ e. Below l.id e.id) l.elements l.from l.i
