use Rattle.tp_receive.proofs.Common.{◌≡◌, ◌≤◌, List, length, ChangeParts, GainsOnly, KnowsApart, Lacks, LacksApart}
use Rattle.tp_receive.proofs.LackingLaws.{AreKnown, IsHalfway}
use Rattle.tp_receive.proofs.lacking.Lacking.forget_lacked.Given as goal

abbrev pub invariant-loop-i : goal.invariant-loop-i
invariant-loop-i l = record {
  long : length l.self-inside.hashes.items ≡ length l.fn.self;
  beyond : l.known ≤ l.i;
  known : AreKnown l.known l.self-inside.hashes.items;
  halfway : (C D W : List ChangeParts) → GainsOnly C D l.entered → KnowsApart C l.entered W l.fn.self
      → IsHalfway (LacksApart C l.entered) (Lacks D) W l.self-inside.hashes.items l.i;
}
