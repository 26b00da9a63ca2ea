use Rattle.tp_mirror.proofs.Keeping.{holds-same, kept-moved, kept-part, kept-recoverable, knows-copy, may-put, move-part, move-same, move-state, part-is, part-moved, put-moved, put-part, watched-kept}
use Rattle.tp_mirror.proofs.placing.replace.Goals as goal

pub write_part-requires : goal.write_part-requires
write_part-requires g c = may-put _ _ _ _ _ c.in_ok-intend.ensures.saved (holds-same _ _ _ _ c.in_ok-name.ensures c.requires.whole) (knows-copy _ _ _ c.in_ok-next.ensures c.in_ok-intend.ensures.knows) c.in_ok-intend.ensures.away

pub move_away-requires-clause-sound : goal.move_away-requires-clause-sound
move_away-requires-clause-sound g c = kept-recoverable _ _ _ (kept-part _ _ _ _ _ c.in_ok-write_part.ensures c.in_ok-intend.ensures.kept)

pub move_away-requires-clause-read : goal.move_away-requires-clause-read
move_away-requires-clause-read g c = move-part _ _ _ _ c.in_ok-write_part.ensures (move-state _ _ _ _ c.in_ok-intend.ensures.saved (move-same _ _ _ c.in_ok-name.ensures c.requires.read))

pub move_away-requires-clause-watched : goal.move_away-requires-clause-watched
move_away-requires-clause-watched g c = watched-kept _ _ _ _ (kept-part _ _ _ _ _ c.in_ok-write_part.ensures c.in_ok-intend.ensures.kept) c.in_ok-intend.ensures.watches

pub move_away-requires-clause-part : goal.move_away-requires-clause-part
move_away-requires-clause-part g c = part-is _ _ _ c.in_ok-write_part.ensures

pub move_away-requires-clause-put : goal.move_away-requires-clause-put
move_away-requires-clause-put g c = put-part _ _ _ _ c.in_ok-write_part.ensures (may-put _ _ _ _ _ c.in_ok-intend.ensures.saved (holds-same _ _ _ _ c.in_ok-name.ensures c.requires.whole) (knows-copy _ _ _ c.in_ok-next.ensures c.in_ok-intend.ensures.knows) c.in_ok-intend.ensures.away)

pub place-requires-clause-kept : goal.place-requires-clause-kept
place-requires-clause-kept g c = kept-moved _ _ _ _ _ c.in_ok-move_away.ensures c.in_ok-intend.ensures.away c.in_ok-intend.ensures.watches (kept-part _ _ _ _ _ c.in_ok-write_part.ensures c.in_ok-intend.ensures.kept)

pub place-requires-clause-part : goal.place-requires-clause-part
place-requires-clause-part g c = part-moved _ _ _ _ c.in_ok-move_away.ensures (part-is _ _ _ c.in_ok-write_part.ensures)

pub place-requires-clause-put : goal.place-requires-clause-put
place-requires-clause-put g c = put-moved _ _ _ _ _ c.in_ok-move_away.ensures (put-part _ _ _ _ c.in_ok-write_part.ensures (may-put _ _ _ _ _ c.in_ok-intend.ensures.saved (holds-same _ _ _ _ c.in_ok-name.ensures c.requires.whole) (knows-copy _ _ _ c.in_ok-next.ensures c.in_ok-intend.ensures.knows) c.in_ok-intend.ensures.away))
