use Rattle.std.specs.List.{AllWithin}
use Rattle.tp_opid.specs.Order.{Below}
use Rattle.tp_elements.specs.Came.{element_at}
use Rattle.tp_posindex.proofs.spots.past_greater_in.Given as goal

-- what was passed is above the identifier
abbrev pub invariant-loop-offset : goal.invariant-loop-offset
invariant-loop-offset l = AllWithin (λ k. Below l.id (element_at l.entries.items k).id) l.numbers l.from l.offset
