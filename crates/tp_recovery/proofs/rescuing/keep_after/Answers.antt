use Rattle.std.proofs.Common.{inl}
use Rattle.tp_recovery.proofs.rescuing.keep_after.Goals as goal

pub returns-in-Ok-clause-ok : goal.returns-in-Ok-clause-ok
returns-in-Ok-clause-ok g c =
    let kept = c.in-Ok.ensures.ok in
    let beyond = kept.0 in (
      inl (record { is_id = beyond.is_id; history = beyond.history; spelled = beyond.spelled; keep_is = beyond.keep_is; ends = kept.1 }),
      beyond.waiting,
    )
