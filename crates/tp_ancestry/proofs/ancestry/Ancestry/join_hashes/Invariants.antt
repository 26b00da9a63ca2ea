use Rattle.tp_ancestry.proofs.Common.{IsJoined}
use Rattle.tp_ancestry.proofs.ancestry.Ancestry.join_hashes.Given as goal

abbrev pub invariant-loop-number : goal.invariant-loop-number
invariant-loop-number l = IsJoined l.self.changes l.hashes l.number l.beyond
