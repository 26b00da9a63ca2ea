use Rattle.tp_sync.proofs.Common.{take, HasPut}
use Rattle.tp_sync.proofs.wanting.put_absent.Given as goal

abbrev pub invariant-loop-hash : goal.invariant-loop-hash
invariant-loop-hash l = HasPut l.graph.applied l.graph.waiting l.initial.found.items (take l.hash-index l.hashes) l.found.items
