use Rattle.std.proofs.Common.{[], ◌∷◌}
use Rattle.tp_digest.proofs.Hashing.{HasHashed}
use Rattle.tp_digest.proofs.four.side_by_side.Given as goal

abbrev pub invariant-loop-i : goal.invariant-loop-i
invariant-loop-i l =
    HasHashed (l.first.message.now ∷ l.second.message.now ∷ l.third.message.now ∷ l.fourth.message.now ∷ [])
    l.counts l.state l.digests l.i
