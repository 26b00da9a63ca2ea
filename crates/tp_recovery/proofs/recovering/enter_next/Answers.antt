use Rattle.std.proofs.Common.{inl, inr}
use Rattle.tp_recovery.proofs.Laying.{laid_record, laid_damaged}
use Rattle.tp_recovery.proofs.recovering.enter_next.Goals as goal

pub returns-in-Ok-enter_change-clause-next : goal.returns-in-Ok-enter_change-clause-next
returns-in-Ok-enter_change-clause-next g c =
    let laid = rw c.in-Ok-Some.field-0-is at c.in-Ok-Some.ensures.whole in
    let found = c.in-Ok.ensures.found in
    let entered = c.in-Ok-enter_change.ensures.ok in
    (c.in-Ok.change, laid_record _ _ c.in-Ok-Some.laid.digest _ c.in-Ok.change laid found.1 found.2, entered.1)

pub returns-in-Err-enter_change-clause-err : goal.returns-in-Err-enter_change-clause-err
returns-in-Err-enter_change-clause-err g c =
    let laid = rw c.in-Ok-Some.field-0-is at c.in-Ok-Some.ensures.whole in
    let found = c.in-Ok.ensures.found in
    elim c.in-Err-enter_change.ensures.err [
      | inl memory ↦ inl memory
      | inr unfit ↦ inr (inr (
        unfit.0,
        unfit.1,
        record {
          next = c.in-Ok.change;
          rest = c.in-Ok-Some.laid.rest.now;
          limits = found.0;
          spelled = laid_record _ _ c.in-Ok-Some.laid.digest _ c.in-Ok.change laid found.1 found.2;
          unfit = unfit.2;
        },
      ))
    ]

pub returns-in-Err-change_of-clause-err : goal.returns-in-Err-change_of-clause-err
returns-in-Err-change_of-clause-err g c =
    let laid = rw c.in-Ok-Some.field-0-is at c.in-Ok-Some.ensures.whole in
    elim c.in-Err-change_of.ensures.err [
      | inl memory ↦ inl memory
      | inr bad ↦ inr (inl (bad.0, laid_damaged _ _ c.in-Ok-Some.laid.digest _ laid bad.1))
    ]
