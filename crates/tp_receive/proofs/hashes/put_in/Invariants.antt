use Rattle.tp_receive.proofs.Common.{◌≡◌, ◌||◌, take, Hash, has_hash}
use Rattle.tp_receive.proofs.hashes.put_in.Given as goal

abbrev pub invariant-loop-hash : goal.invariant-loop-hash
invariant-loop-hash l = (h : Hash) → has_hash l.sorted.keys h ≡ (has_hash l.fn.sorted.keys h || has_hash (take l.hash-index l.late) h)
