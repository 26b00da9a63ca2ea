use Rattle.tp_message.proofs.Common.{◌≡◌, ◌-◌, take, drop, length, Result, Ok, sym, ap, subst, ◌∙◌, refl, arith, err_from_is_err_and, SyncError, OutOfMemory, FailsWith, fails_by, MessageParts, message_at, reads, drop_all, take_rest}
use Rattle.tp_message.proofs.ReaderLaws.{fails_of_answers, taken_on}
use Rattle.tp_message.proofs.WholeMessage.{message_takes, message_again}
use Rattle.tp_message.proofs.message.Message.decode.Goals as goal

pub returns-in_err-reader-clause-only : goal.returns-in_err-reader-clause-only
returns-in_err-reader-clause-only c = λ m is e.
    let p = err_from_is_err_and c.from_residual.result c.from_residual.ensures.1 in
    let fails : FailsWith OutOfMemory c.in_err-reader.field-0.0 (message_at c.args.bytes.now) = fails_by OutOfMemory c.in_err-reader.field-0.0 (message_at c.args.bytes.now) (c.in_err-reader.ensures.every c.args.bytes.now refl) in
    rw (p.1, p.2) (subst (λ (r : Result MessageParts SyncError). FailsWith OutOfMemory c.in_err-reader.field-0.0 r) (ap message_at e ∙ message_again m is) fails)

pub returns-in_err-at-clause-exact : goal.returns-in_err-at-clause-exact
returns-in_err-at-clause-exact c =
    let p = err_from_is_err_and c.from_residual-in_err-at.result c.from_residual-in_err-at.ensures.1 in
    rw (p.1, p.2)
    (fails_of_answers c.fields.reader c.take_ahead.new.self c.args.bytes.now (take (length c.args.bytes.now - c.fields.at) (drop c.fields.at c.args.bytes.now)) c.fields.at c.in_err-at.field-0.0 (take_rest c.args.bytes.now c.fields.at) c.fields.invariant.0 c.in_err-at.ensures.answers c.fields.invariant.1)

pub returns-in_err-at-clause-only : goal.returns-in_err-at-clause-only
returns-in_err-at-clause-only c = λ m is e.
    let p = err_from_is_err_and c.from_residual-in_err-at.result c.from_residual-in_err-at.ensures.1 in
    rw (p.1, p.2)
    (subst (λ (r : Result MessageParts SyncError). FailsWith OutOfMemory c.in_err-at.field-0.0 r) (ap message_at e ∙ message_again m is)
    (fails_of_answers c.fields.reader c.take_ahead.new.self c.args.bytes.now (take (length c.args.bytes.now - c.fields.at) (drop c.fields.at c.args.bytes.now)) c.fields.at c.in_err-at.field-0.0 (take_rest c.args.bytes.now c.fields.at) c.fields.invariant.0 c.in_err-at.ensures.answers c.fields.invariant.1))

pub fields-preserved : goal.fields-preserved
fields-preserved c =
    let taken = c.in_ok-at.ensures.answers in (
      omega (arith, taken.left, c.fields.invariant.0),
      taken_on c.fields.reader c.take_ahead.new.self c.args.bytes.now (take (length c.args.bytes.now - c.fields.at) (drop c.fields.at c.args.bytes.now)) c.fields.at c.in_ok-at.field-0 (take_rest c.args.bytes.now c.fields.at) taken c.fields.invariant.1,
    )

pub returns-clause-found : goal.returns-clause-found
returns-clause-found c =
    let none : c.fields.reader.left ≡ 0 = c.whole.ensures.taken (sym c.whole.ensures.exact ∙ c.fields-test.false) in
    let read : message_at c.args.bytes.now ≡ Ok c.finish.result = sym c.fields.invariant.1 ∙ ap (reads c.fields.reader) (drop_all c.fields.at c.args.bytes.now (omega (arith, none, c.fields.invariant.0))) ∙ c.finish.ensures.exact in
    message_takes c.args.bytes.now c.finish.result (λ i. omega (arith, c.type_inv.bytes i)) read

pub returns-clause-only : goal.returns-clause-only
returns-clause-only c = λ m is e.
    let none : c.fields.reader.left ≡ 0 = c.whole.ensures.taken (sym c.whole.ensures.exact ∙ c.fields-test.false) in
    let read : message_at c.args.bytes.now ≡ Ok c.finish.result = sym c.fields.invariant.1 ∙ ap (reads c.fields.reader) (drop_all c.fields.at c.args.bytes.now (omega (arith, none, c.fields.invariant.0))) ∙ c.finish.ensures.exact in
    sym (ap message_at e ∙ message_again m is) ∙ read
