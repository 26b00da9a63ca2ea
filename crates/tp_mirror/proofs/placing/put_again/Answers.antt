use Rattle.std.proofs.Common.{ap, ◌∙◌}
use Rattle.tp_mirror.specs.declared.state.State.{State}
use Rattle.tp_mirror.proofs.Keeping.{can-put-again, kept-heads, kept-part, kept-recoverable, kept-state, knows-begun, made-heads, may-put, part-is, put-part}
use Rattle.tp_mirror.proofs.placing.put_again.Goals as goal

pub save-requires-clause-sound : goal.save-requires-clause-sound
save-requires-clause-sound g c = kept-recoverable _ _ _ (kept-heads _ _ _ _ _ c.in_ok-now.ensures.0 c.requires.kept)

pub save-requires-clause-can : goal.save-requires-clause-can
save-requires-clause-can g c = can-put-again _ c.args.state.now _ c.in_ok-begin_generation.ensures.0 c.in_ok-now.now (kept-heads _ _ _ _ _ c.in_ok-now.ensures.0 c.requires.kept) (made-heads _ _ _ c.in_ok-now.ensures.0) (c.in_ok-begin_generation.ensures.1 ∙ c.in_ok-next.ensures) c.in_ok-begin_generation.ensures.3

pub write_part-requires : goal.write_part-requires
write_part-requires g c = may-put _ _ _ _ _ c.in_ok-save.ensures c.in_ok-now.ensures.1 (knows-begun c.args.state.now _ c.in_ok-begin_generation.ensures.0 _ c.in_ok-begin_generation.ensures.3 (c.in_ok-begin_generation.ensures.1 ∙ c.in_ok-next.ensures)) (ap (λ (x : State). x.is_away) c.in_ok-begin_generation.ensures.3 ∙ c.requires.away)

pub place-requires-clause-kept : goal.place-requires-clause-kept
place-requires-clause-kept g c = kept-part _ _ _ _ _ c.in_ok-write_part.ensures (kept-state _ _ _ c.in_ok-save.ensures (can-put-again _ c.args.state.now _ c.in_ok-begin_generation.ensures.0 c.in_ok-now.now (kept-heads _ _ _ _ _ c.in_ok-now.ensures.0 c.requires.kept) (made-heads _ _ _ c.in_ok-now.ensures.0) (c.in_ok-begin_generation.ensures.1 ∙ c.in_ok-next.ensures) c.in_ok-begin_generation.ensures.3))

pub place-requires-clause-part : goal.place-requires-clause-part
place-requires-clause-part g c = part-is _ _ _ c.in_ok-write_part.ensures

pub place-requires-clause-put : goal.place-requires-clause-put
place-requires-clause-put g c = put-part _ _ _ _ c.in_ok-write_part.ensures (may-put _ _ _ _ _ c.in_ok-save.ensures c.in_ok-now.ensures.1 (knows-begun c.args.state.now _ c.in_ok-begin_generation.ensures.0 _ c.in_ok-begin_generation.ensures.3 (c.in_ok-begin_generation.ensures.1 ∙ c.in_ok-next.ensures)) (ap (λ (x : State). x.is_away) c.in_ok-begin_generation.ensures.3 ∙ c.requires.away))
