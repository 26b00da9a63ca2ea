use Rattle.tp_message.proofs.Common.{take, AllByRecursion, IsHash}
use Rattle.tp_message.proofs.message.of_hashes.Given as goal

abbrev pub invariant-loop-hash : goal.invariant-loop-hash
invariant-loop-hash l = AllByRecursion IsHash (take l.hash-index l.hashes)
