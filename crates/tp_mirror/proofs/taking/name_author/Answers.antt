use Rattle.std.proofs.Common.{refl}
use Rattle.tp_mirror.proofs.Keeping.{can-name, kept-state}
use Rattle.tp_mirror.proofs.taking.name_author.Goals as goal

pub save-requires-clause-can : goal.save-requires-clause-can
save-requires-clause-can g c = can-name _ _ c.args.state.now _ c.in_ok-author.ensures.same c.requires.kept refl refl refl

pub returns-in_ok-save-clause-kept : goal.returns-in_ok-save-clause-kept
returns-in_ok-save-clause-kept g c = kept-state _ _ _ c.in_ok-save.ensures (can-name _ _ c.args.state.now _ c.in_ok-author.ensures.same c.requires.kept refl refl refl)
