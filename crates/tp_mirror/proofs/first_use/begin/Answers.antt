use Rattle.std.proofs.Common.{◌∙◌}
use Rattle.tp_mirror.proofs.Keeping.{kept-state, made-heads}
use Rattle.tp_mirror.proofs.Watching.{first-can, first-sound, saved-heads, saved-read, unused-heads, unused-read}
use Rattle.tp_mirror.proofs.first_use.begin.Goals as goal

pub make_room-requires-clause-saved : goal.make_room-requires-clause-saved
make_room-requires-clause-saved g c = saved-heads _ _ _ c.in_ok-now.ensures.0 (saved-read _ _ _ _ c.in_ok-look.ensures c.requires.saved)

pub make_room-requires-clause-unused : goal.make_room-requires-clause-unused
make_room-requires-clause-unused g c = unused-heads _ _ _ c.in_ok-now.ensures.0 (unused-read _ _ _ _ c.in_ok-look.ensures c.requires.unused)

pub save-requires-clause-sound : goal.save-requires-clause-sound
save-requires-clause-sound g c = first-sound _ _ (c.in_ok-author.ensures ∙ c.in_ok-is_away.ensures) (saved-heads _ _ _ c.in_ok-now.ensures.0 (saved-read _ _ _ _ c.in_ok-look.ensures c.requires.saved)) (unused-heads _ _ _ c.in_ok-now.ensures.0 (unused-read _ _ _ _ c.in_ok-look.ensures c.requires.unused))

pub save-requires-clause-can : goal.save-requires-clause-can
save-requires-clause-can g c = first-can _ _ _ _ (c.in_ok-author.ensures ∙ c.in_ok-is_away.ensures) (saved-heads _ _ _ c.in_ok-now.ensures.0 (saved-read _ _ _ _ c.in_ok-look.ensures c.requires.saved)) (unused-heads _ _ _ c.in_ok-now.ensures.0 (unused-read _ _ _ _ c.in_ok-look.ensures c.requires.unused)) c.in_ok-state.ensures (made-heads _ _ _ c.in_ok-now.ensures.0)

pub returns : goal.returns
returns g c = kept-state _ _ _ c.in_ok-save.ensures (first-can _ _ _ _ (c.in_ok-author.ensures ∙ c.in_ok-is_away.ensures) (saved-heads _ _ _ c.in_ok-now.ensures.0 (saved-read _ _ _ _ c.in_ok-look.ensures c.requires.saved)) (unused-heads _ _ _ c.in_ok-now.ensures.0 (unused-read _ _ _ _ c.in_ok-look.ensures c.requires.unused)) c.in_ok-state.ensures (made-heads _ _ _ c.in_ok-now.ensures.0))
