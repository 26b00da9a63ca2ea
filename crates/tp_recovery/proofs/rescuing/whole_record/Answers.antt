use Rattle.std.proofs.Common.{inl, inr, List, ℕ, subst}
use Rattle.tp_recovery.specs.Layout.{IsShortTail}
use Rattle.tp_recovery.specs.Refusals.{IsDamaged}
use Rattle.tp_recovery.proofs.Laying.{laid_record, laid_damaged}
use Rattle.tp_recovery.proofs.RecordLaws.{damaged_no_record, short_no_record}
use Rattle.tp_recovery.proofs.WholeLaws.{not_lack}
use Rattle.tp_recovery.proofs.rescuing.whole_record.Goals as goal

pub returns-in-Ok-clause-found : goal.returns-in-Ok-clause-found
returns-in-Ok-clause-found c =
    let laid = rw c.in-Ok-Some.field-0-is at c.in-Ok-Some.ensures.whole in
    let found = c.in-Ok.ensures.found in
    (found.0, laid_record _ _ c.in-Ok-Some.laid.digest _ c.in-Ok.change laid found.1 found.2)

pub returns-in-Err-Damaged-clause-none : goal.returns-in-Err-Damaged-clause-none
returns-in-Err-Damaged-clause-none c =
    let laid = rw c.in-Ok-Some.field-0-is at c.in-Ok-Some.ensures.whole in
    let bad = not_lack _ c.in-Err-Damaged.field-0-0 0 (rw c.in-Err-Damaged.field-0-is at c.in-Err-Damaged.ensures.err) in
    λ d rest is spelled. damaged_no_record d rest is (subst IsDamaged spelled (laid_damaged _ _ c.in-Ok-Some.laid.digest _ laid bad))

pub returns-in-Ok-None-clause-none : goal.returns-in-Ok-None-clause-none
returns-in-Ok-None-clause-none c = λ d rest is spelled. short_no_record d rest is (subst IsShortTail spelled (rw c.in-Ok-None.field-0-is at c.in-Ok-None.ensures.tail))

pub returns-in-Err-clause-none : goal.returns-in-Err-clause-none
returns-in-Err-clause-none c = λ d rest is spelled. damaged_no_record d rest is (subst IsDamaged spelled c.in-Err.ensures.err.1)
