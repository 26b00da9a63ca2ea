use Rattle.tp_ancestry.proofs.Common.{◌≡◌, ◌++◌, drop, map, bits, skip}
use Rattle.tp_ancestry.proofs.ancestry.Ancestry.outside.Given as goal

abbrev pub invariant-loop-i : goal.invariant-loop-i
invariant-loop-i l = map (λ c. c.now) l.found.items ++ skip (drop l.i (bits l.past_set l.self.changes)) (drop l.i l.self.changes) ≡ skip (bits l.past_set l.self.changes) l.self.changes
