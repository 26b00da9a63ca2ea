use Rattle.tp_receive.proofs.Common.{◌≡◌, ◌++◌, List, drop, Hash, ChangeParts, has_all, IsHashSetOf, has_hash}
use Rattle.tp_receive.proofs.coming.all_there.Given as goal

abbrev pub invariant-loop-hash : goal.invariant-loop-hash
invariant-loop-hash g l = record {
  there : (D : List ChangeParts) → IsHashSetOf l.fn.delivered D
      → has_all (g.R.Replica.applied l.replica ++ D) (drop l.hash-index l.hashes) ≡ has_all (g.R.Replica.applied l.replica ++ D) l.hashes;
  stays : (h : Hash) → has_hash l.delivered h ≡ has_hash l.fn.delivered h;
}
