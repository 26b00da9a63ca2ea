use Rattle.std.proofs.Common.{◌≡◌, None, length}
use Rattle.tp_mirror.specs.Mirroring.{IsKept}
use Rattle.tp_mirror.proofs.moved.look_back.Given as goal

abbrev pub invariant-loop-at : goal.invariant-loop-at
invariant-loop-at g l = record {
  kept : IsKept (g.W.Workspace.view l.workspace) l.state None;
  len : length l.state.moved ≡ l.at-end;
}
