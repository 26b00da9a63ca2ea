use Rattle.tp_ancestry.proofs.Common.{◌≡◌, take}
use Rattle.tp_ancestry.proofs.walk.same_hashes.Given as goal

abbrev pub invariant-loop-i : goal.invariant-loop-i
invariant-loop-i l = take l.i l.xs ≡ take l.i l.ys
