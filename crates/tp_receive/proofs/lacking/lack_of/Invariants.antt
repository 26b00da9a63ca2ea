use Rattle.tp_receive.proofs.Common.{◌≡◌, drop, has_all}
use Rattle.tp_receive.proofs.lacking.lack_of.Given as goal

abbrev pub invariant-loop-hash : goal.invariant-loop-hash
invariant-loop-hash g l = has_all (g.R.Replica.applied l.replica) (drop l.hash-index l.hash-items) ≡ has_all (g.R.Replica.applied l.replica) l.hash-items
