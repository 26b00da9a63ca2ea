use Rattle.tp_ancestry.proofs.Common.{◌≡◌, drop}
use Rattle.tp_history.specs.Named as named
use Rattle.tp_ancestry.proofs.ancestry.Ancestry.has_all.Given as goal

abbrev pub invariant-loop-hash : goal.invariant-loop-hash
invariant-loop-hash l = named.has_all l.self.changes (drop l.hash-index l.hashes) ≡ named.has_all l.self.changes l.hashes
