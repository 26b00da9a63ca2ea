use Rattle.tp_ancestry.proofs.Common.{◌≡◌, take, drop, ◌++◌, hash_cmp}
use Rattle.tp_list.specs.Rising as list
use Rattle.tp_ancestry.proofs.heads.place_for.Given as goal

abbrev pub invariant-loop-i : goal.invariant-loop-i
invariant-loop-i l = list.put hash_cmp l.fn.hash l.heads ≡ take l.i l.heads ++ list.put hash_cmp l.fn.hash (drop l.i l.heads)
