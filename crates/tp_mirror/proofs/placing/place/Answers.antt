use Rattle.std.proofs.Common.{refl}
use Rattle.tp_mirror.proofs.Keeping.{can-come-back, kept-answer, kept-recoverable, kept-state, kept-without_part, there-linked}
use Rattle.tp_mirror.proofs.Resulting.{again-outcome, put-outcome}
use Rattle.tp_mirror.proofs.placing.place.Goals as goal

pub save-requires-clause-sound : goal.save-requires-clause-sound
save-requires-clause-sound g c = kept-recoverable _ _ _ (kept-without_part _ _ _ _ c.in_ok-remove_part.ensures (kept-answer _ _ _ _ _ _ c.in_ok-is_linked.ensures c.requires.kept))

pub save-requires-clause-can : goal.save-requires-clause-can
save-requires-clause-can g c = can-come-back _ c.args.state.now _ (kept-without_part _ _ _ _ c.in_ok-remove_part.ensures (kept-answer _ _ _ _ _ _ c.in_ok-is_linked.ensures c.requires.kept)) (there-linked _ _ _ _ _ c.in_ok-is_linked.ensures c.if-is_linked.true c.in_ok-remove_part.ensures) refl refl

pub returns-then-is_linked-clause-kept : goal.returns-then-is_linked-clause-kept
returns-then-is_linked-clause-kept g c = kept-state _ _ _ c.in_ok-save.ensures (can-come-back _ c.args.state.now _ (kept-without_part _ _ _ _ c.in_ok-remove_part.ensures (kept-answer _ _ _ _ _ _ c.in_ok-is_linked.ensures c.requires.kept)) (there-linked _ _ _ _ _ c.in_ok-is_linked.ensures c.if-is_linked.true c.in_ok-remove_part.ensures) refl refl)

pub returns-clause-kept : goal.returns-clause-kept
returns-clause-kept g c = kept-without_part _ _ _ _ c.in_ok-remove_part-2.ensures (kept-answer _ _ _ _ _ _ c.in_ok-is_linked.ensures c.requires.kept)

pub returns-then-is_linked-clause-outcome : goal.returns-then-is_linked-clause-outcome
returns-then-is_linked-clause-outcome g c = put-outcome _ _ _ _ _ _ _ _ c.in_ok-is_linked.ensures c.if-is_linked.true c.in_ok-remove_part.ensures c.in_ok-save.ensures c.requires.put.whole

pub returns-clause-outcome : goal.returns-clause-outcome
returns-clause-outcome g c = again-outcome _ _ _ _ _ c.in_ok-is_linked.ensures c.if-is_linked.false c.in_ok-remove_part-2.ensures
