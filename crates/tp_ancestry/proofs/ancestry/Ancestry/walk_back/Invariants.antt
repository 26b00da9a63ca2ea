use Rattle.tp_ancestry.proofs.Common.{◌≡◌, ◌-◌, length, marks_of_walk}
use Rattle.tp_ancestry.proofs.ancestry.Ancestry.walk_back.Given as goal

abbrev pub invariant-loop-passed : goal.invariant-loop-passed
invariant-loop-passed l = (l.marks.items ≡ marks_of_walk l.self.changes l.hashes (length l.self.changes - l.passed)) × (length l.marks.items ≡ length l.self.changes)
