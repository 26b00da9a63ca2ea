use Rattle.std.proofs.Common.{ap, refl, sym}
use Rattle.tp_mirror.specs.declared.state.Moved.{Moved}
use Rattle.tp_mirror.proofs.Keeping.{kept-state}
use Rattle.tp_mirror.proofs.Watching.{can-rewatch, place_in}
use Rattle.tp_mirror.proofs.moved.rewatch.Goals as goal

pub save-requires-clause-can : goal.save-requires-clause-can
save-requires-clause-can g c = can-rewatch _ c.args.state.now _ c.args.at c.index-as_slice-at.result _ c.requires.kept refl refl c.set.ensures (place_in _ _ c.args.state.now.moved _ c.index-as_slice-at.result refl c.as_slice.ensures c.requires.within c.index-as_slice-at.is) (ap (λ (q : Moved). q.name) (sym c.index-as_slice-at.is)) c.requires.made

pub returns-clause-kept : goal.returns-clause-kept
returns-clause-kept g c = kept-state _ _ _ c.in_ok-save.ensures (can-rewatch _ c.args.state.now _ c.args.at c.index-as_slice-at.result _ c.requires.kept refl refl c.set.ensures (place_in _ _ c.args.state.now.moved _ c.index-as_slice-at.result refl c.as_slice.ensures c.requires.within c.index-as_slice-at.is) (ap (λ (q : Moved). q.name) (sym c.index-as_slice-at.is)) c.requires.made)
