use Rattle.tp_ancestry.proofs.Common.{◌≡◌, take, map, not, bits}
use Rattle.tp_ancestry.proofs.ancestry.Ancestry.outside_marks.Given as goal

abbrev pub invariant-loop-i : goal.invariant-loop-i
invariant-loop-i l = l.marks.items ≡ take l.i (map not (bits l.past_set l.self.changes))
