use Rattle.std.proofs.lemmas.Result.{err_from_is_err_and}
use Rattle.tp_codec.specs.Reading.{repeat_at}
use Rattle.tp_layout.specs.Reading.{record_at, room_after}
use Rattle.tp_codec.proofs.Refusals.{fails_on}
use Rattle.tp_layout.specs.declared.error.ChangeError.TheVariants.{OutOfMemory}
use Rattle.tp_layout.proofs.OneLaws.{one_there, one_refused}
use Rattle.tp_layout.proofs.reading.one_record_of.Goals as goal

pub returns-in_err-record : goal.returns-in_err-record
returns-in_err-record c =
    let p = err_from_is_err_and c.from_residual.result c.from_residual.ensures.1 in
    rw (p.1, p.2)
    (fails_on OutOfMemory c.in_err-record.field-0.0 (record_at c.args.runs c.args.room c.args.reader.now) (repeat_at (record_at c.args.runs) room_after 1 c.args.room c.args.reader.now)
    (one_refused (record_at c.args.runs) room_after c.args.room c.in_err-record.field-0.0 c.args.reader.now) c.in_err-record.ensures.record)

pub returns : goal.returns
returns c = (one_there (record_at c.args.runs) room_after c.args.room c.in_ok-record.record c.args.reader.now c.record_of.new.reader c.in_ok-record.ensures.record)
