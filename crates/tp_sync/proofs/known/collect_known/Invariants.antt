use Rattle.tp_sync.proofs.KnownLaws.{KnownSoFar}
use Rattle.tp_sync.proofs.known.collect_known.Given as goal

abbrev pub invariant-loop-k : goal.invariant-loop-k
invariant-loop-k g l = KnownSoFar l.document.applied l._k l.back l.known.items
