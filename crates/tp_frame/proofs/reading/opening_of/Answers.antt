use Rattle.std.proofs.Common.{◌≡◌, subst, sym, ◌∙◌, Err, arith}
use Rattle.std.proofs.lemmas.Result.{err_from_is_err_and}
use Rattle.tp_frame.specs.declared.reading.NoFrame.TheVariants.{Missing}
use Rattle.tp_frame.specs.declared.reading.NoFrame.{NoFrame}
use Rattle.tp_frame.specs.Reading.{head_at}
use Rattle.tp_frame.proofs.FrameFields.{made}
use Rattle.tp_frame.proofs.FrontSteps.{none_is, fault_is}
use Rattle.tp_frame.proofs.Openings.{body_there, body_missing, body_none, missing_apart, short_content, head_short, few_bytes, sync_is, wrong_is_due, whole_is, kind_is_read, kind_is_sync}
use Rattle.tp_frame.proofs.reading.opening_of.Goals as goal

pub returns-in_err-head-clause-err : goal.returns-in_err-head-clause-err
returns-in_err-head-clause-err c =
    let p = err_from_is_err_and c.from_residual.result c.from_residual.ensures.1 in
    let found = rw c.new-reader.ensures at c.in_err-head.ensures.found in
    rw (p.1, p.2) (none_is c.args.bytes.now c.in_err-head.field-0.0 (body_none c.args.bytes.now c.in_err-head.field-0.0 found), c.in_err-head.ensures.err)

pub returns-in_err-head-clause-missing : goal.returns-in_err-head-clause-missing
returns-in_err-head-clause-missing c =
    let p = err_from_is_err_and c.from_residual.result c.from_residual.ensures.1 in
    let found = rw c.new-reader.ensures at c.in_err-head.ensures.found in
    λ e.
    let same : c.in_err-head.field-0.0 ≡ Missing = cc (p.1, p.2) in
    let few = head_short c.args.bytes.now (subst (λ (d : NoFrame). head_at c.args.bytes.now ≡ Err d) same found) in
    omega (arith, few)

pub returns-then-head-eq1-clause-found : goal.returns-then-head-eq1-clause-found
returns-then-head-eq1-clause-found c =
    let found = rw c.new-reader.ensures at c.in_ok-head.ensures.found in
    sync_is c.args.bytes.now c.in_ok-head.head c.head_of.new.reader (λ i. omega (arith, c.type_inv.bytes i)) found c.if-head-eq1.true

pub returns-then-head-right_len-clause-found : goal.returns-then-head-right_len-clause-found
returns-then-head-right_len-clause-found c =
    let found = rw c.new-reader.ensures at c.in_ok-head.ensures.found in
    rw (c.saturating_sub.ensures, c.len.ensures, c.fault_of.ensures)
    (wrong_is_due c.args.bytes.now c.in_ok-head.head c.head_of.new.reader (λ i. omega (arith, c.type_inv.bytes i)) found c.if-head-eq1.false (λ same. c.if-head-right_len.true (same ∙ sym c.right_len.ensures.len)))

pub returns-in_err-content-clause-err : goal.returns-in_err-content-clause-err
returns-in_err-content-clause-err c =
    let p = err_from_is_err_and c.from_residual-in_err-content.result c.from_residual-in_err-content.ensures.1 in
    let found = rw c.new-reader.ensures at c.in_ok-head.ensures.found in
    rw (p.1, p.2)
    (none_is c.args.bytes.now c.in_err-content.field-0.0 (body_missing c.args.bytes.now c.in_ok-head.head c.head_of.new.reader c.in_err-content.field-0.0 found c.in_err-content.ensures.found), missing_apart c.in_err-content.field-0.0 c.in_err-content.ensures.err)

pub returns-in_err-content-clause-missing : goal.returns-in_err-content-clause-missing
returns-in_err-content-clause-missing c =
    let found = rw c.new-reader.ensures at c.in_ok-head.ensures.found in
    let short = short_content c.in_ok-head.head.len c.head_of.new.reader c.in_err-content.field-0.0 c.in_err-content.ensures.found in
    λ e. few_bytes c.args.bytes.now c.in_ok-head.head c.head_of.new.reader 17 (λ i. omega (arith, c.type_inv.bytes i)) found short (omega (arith, c.if-head-right_len.false, c.right_len.ensures.small))

pub returns-in-Ok-clause-found : goal.returns-in-Ok-clause-found
returns-in-Ok-clause-found c =
    let found = rw c.new-reader.ensures at c.in_ok-head.ensures.found in
    whole_is c.args.bytes.now c.in_ok-head.head c.head_of.new.reader c.in_ok-content.content.now c.bytes_of.new.reader c.in-Ok.frame (λ i. omega (arith, c.type_inv.bytes i)) found c.in_ok-content.ensures.found c.if-head-eq1.false c.in-Ok.ensures.found

pub returns-in-Err-clause-err : goal.returns-in-Err-clause-err
returns-in-Err-clause-err c =
    let found = rw c.new-reader.ensures at c.in_ok-head.ensures.found in
    let body = body_there c.args.bytes.now c.in_ok-head.head c.head_of.new.reader c.in_ok-content.content.now c.bytes_of.new.reader found c.in_ok-content.ensures.found in
    (fault_is c.args.bytes.now (made c.in_ok-head.head.kind c.in_ok-content.content.now) c.bytes_of.new.reader c.in-Err.e body c.in-Err.ensures.found, λ e. c.in-Err.ensures.err cc)

pub returns-in_err-head-clause-soon : goal.returns-in_err-head-clause-soon
returns-in_err-head-clause-soon c =
    let p = err_from_is_err_and c.from_residual.result c.from_residual.ensures.1 in
    let found = rw c.new-reader.ensures at c.in_err-head.ensures.found in
    λ e.
    let same : c.in_err-head.field-0.0 ≡ Missing = cc (p.1, p.2) in
    kind_is_read c.args.bytes.now (subst (λ (d : NoFrame). head_at c.args.bytes.now ≡ Err d) same found)

pub returns-in_err-content-clause-soon : goal.returns-in_err-content-clause-soon
returns-in_err-content-clause-soon c =
    let found = rw c.new-reader.ensures at c.in_ok-head.ensures.found in
    λ e has. c.if-head-eq1.false (kind_is_sync c.args.bytes.now c.in_ok-head.head c.head_of.new.reader (λ i. omega (arith, c.type_inv.bytes i)) found has)
