use Rattle.tp_ancestry.proofs.Common.{◌≡◌, take, marked_more}
use Rattle.tp_ancestry.proofs.ancestry.Ancestry.mark.Given as goal

abbrev pub invariant-loop-hash : goal.invariant-loop-hash
invariant-loop-hash l = l.marks ≡ marked_more (take l.hash-index l.hashes) l.self.changes l.initial.marks
