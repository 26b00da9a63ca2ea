use Rattle.tp_message.proofs.Common.{◌≡◌, ◌++◌, take, flat_map, Hash}
use Rattle.tp_message.proofs.writing.put_each.Given as goal

abbrev pub invariant-loop-hash : goal.invariant-loop-hash
invariant-loop-hash l = l.out.items ≡ l.fn.out.items ++ flat_map (λ (h : Hash). h.0) (take l.hash-index l.hashes)
