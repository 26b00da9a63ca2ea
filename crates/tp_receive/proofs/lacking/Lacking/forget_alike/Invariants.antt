use Rattle.tp_receive.proofs.Common.{◌≡◌, List, length, ChangeParts, KnowsLack, Lacks, LacksApart}
use Rattle.tp_receive.proofs.LackingLaws.{IsHalfway}
use Rattle.tp_receive.proofs.lacking.Lacking.forget_alike.Given as goal

abbrev pub invariant-loop-i : goal.invariant-loop-i
invariant-loop-i l = record {
  long : length l.self-inside.hashes.items ≡ length l.pending;
  halfway : (C : List ChangeParts) → KnowsLack C l.pending l.fn.self
      → IsHalfway (Lacks C) (LacksApart C l.entered) l.pending l.self-inside.hashes.items l.i;
}
