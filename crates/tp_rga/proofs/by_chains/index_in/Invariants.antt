use Rattle.std.specs.List.{AllWithin}
use Rattle.tp_rga.specs.Order.{Before}
use Rattle.tp_rga.proofs.by_chains.index_in.Given as goal

-- what was passed is before the element
abbrev pub invariant-loop-i : goal.invariant-loop-i
invariant-loop-i l = AllWithin (λ e. Before l.inserts e.id l.x) l.list 0 l.i
