use Rattle.tp_sync.proofs.Common.{◌-◌, drop, length, IsBelowAll, hash_cmp}
use Rattle.tp_sync.proofs.wanting.index_for.Given as goal

abbrev pub invariant-loop-passed : goal.invariant-loop-passed
invariant-loop-passed l = IsBelowAll hash_cmp l.fn.hash (drop (length l.hashes - l.passed) l.hashes)
