use Rattle.std.proofs.Common.{◌≡◌, None, IfSome}
use Rattle.tp_mirror.proofs.Places.{IsNearestBelow, NoneCountsBelow}
use Rattle.tp_mirror.proofs.base.find_nearest.Given as goal

abbrev pub invariant-loop-at : goal.invariant-loop-at
invariant-loop-at g l = record {
  same : g.W.Workspace.view l.workspace ≡ g.W.Workspace.view l.fn.workspace;
  best : IfSome l.best (λ n. IsNearestBelow g.W.Workspace.is_far l.own l.texts l.text n l.at);
  none : l.best ≡ None → NoneCountsBelow l.own l.texts l.at;
}
