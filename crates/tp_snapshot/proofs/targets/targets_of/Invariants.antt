use Rattle.tp_snapshot.proofs.Common.{take, AreTargets, IsAuthorOf}
use Rattle.tp_snapshot.proofs.targets.targets_of.Given as goal

-- the stretches so far cover the targets of the deletes so far
abbrev pub invariant-loop-delete : goal.invariant-loop-delete
invariant-loop-delete l = record {
  author : IsAuthorOf l.clock l.author;
  targets : AreTargets l.stretches.items l.clock (take l.delete-index l.deletes);
}
