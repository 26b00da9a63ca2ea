use Rattle.std.proofs.Common.{refl}
use Rattle.tp_mirror.proofs.Keeping.{kept-recoverable, kept-state}
use Rattle.tp_mirror.proofs.Watching.{can-remove, kept-removed}
use Rattle.tp_mirror.proofs.moved.remove.Goals as goal

pub save-requires-clause-sound : goal.save-requires-clause-sound
save-requires-clause-sound g c = kept-recoverable _ _ _ (kept-removed _ _ _ _ c.in_ok-remove_moved.ensures c.requires.kept)

pub save-requires-clause-can : goal.save-requires-clause-can
save-requires-clause-can g c = can-remove _ _ c.args.name c.args.state.now _ c.args.at c.requires.at.0 c.in_ok-remove_moved.ensures c.requires.kept refl refl c.remove-moved.ensures c.requires.at.1 c.requires.at.2

pub returns : goal.returns
returns g c = kept-state _ _ _ c.in_ok-save.ensures (can-remove _ _ c.args.name c.args.state.now _ c.args.at c.requires.at.0 c.in_ok-remove_moved.ensures c.requires.kept refl refl c.remove-moved.ensures c.requires.at.1 c.requires.at.2)
