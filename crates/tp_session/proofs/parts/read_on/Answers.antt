use Rattle.tp_session.proofs.Common.{◌-◌, length, take, drop, err_from_is_err_and, take_rest}
use Rattle.tp_session.proofs.ReadingLaws.{reads_refused, reads_step}
use Rattle.tp_session.proofs.parts.read_on.Goals as goal

pub returns-in_err-at : goal.returns-in_err-at
returns-in_err-at c = λ frame reads few.
    let p = err_from_is_err_and c.from_residual.result c.from_residual.ensures.1 in
    rw (p.1, p.2)
    (reads_refused c.args.reader c.fields.taking c.take_ahead.new.self c.args.piece.now (take (length c.args.piece.now - c.fields.at) (drop c.fields.at c.args.piece.now)) c.fields.at frame c.in_err-at.field-0.0 (take_rest c.args.piece.now c.fields.at) c.fields.invariant c.in_err-at.ensures.answers reads)

pub fields-preserved : goal.fields-preserved
fields-preserved c =
    reads_step c.args.reader c.fields.taking c.take_ahead.new.self c.args.piece.now (take (length c.args.piece.now - c.fields.at) (drop c.fields.at c.args.piece.now)) c.fields.at c.in_ok-at.field-0 (take_rest c.args.piece.now c.fields.at) c.fields.invariant c.in_ok-at.ensures.answers
