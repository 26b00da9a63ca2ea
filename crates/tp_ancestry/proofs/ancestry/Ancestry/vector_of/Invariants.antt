use Rattle.tp_ancestry.proofs.Common.{take, IsVectorOf}
use Rattle.tp_ancestry.proofs.ancestry.Ancestry.vector_of.Given as goal

abbrev pub invariant-loop-number : goal.invariant-loop-number
invariant-loop-number l = IsVectorOf l.self.changes (take l.number l.hashes) l.vector
