use Rattle.std.proofs.Common.{◌≡◌, None, IfSome}
use Rattle.tp_mirror.proofs.Places.{IsLastBelow, HasNoneBelow}
use Rattle.tp_mirror.proofs.base.last_of.Given as goal

abbrev pub invariant-loop-at : goal.invariant-loop-at
invariant-loop-at l = record {
  last : IfSome l.last (λ a. IsLastBelow l.texts l.generation a l.at);
  none : l.last ≡ None → HasNoneBelow l.texts l.generation l.at;
}
