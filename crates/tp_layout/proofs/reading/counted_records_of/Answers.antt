use Rattle.std.proofs.lemmas.Result.{err_from_is_err_and}
use Rattle.tp_codec.proofs.Loops.{begins, goes_on, ends, is_done}
use Rattle.tp_codec.specs.Reading.{repeat_at}
use Rattle.tp_layout.specs.Reading.{record_at, room_after}
use Rattle.tp_codec.proofs.Refusals.{fails_on}
use Rattle.tp_layout.specs.declared.error.ChangeError.TheVariants.{OutOfMemory}
use Rattle.tp_layout.proofs.reading.counted_records_of.Goals as goal

pub loop-init : goal.loop-init
loop-init c = rw c.in_ok-records.ensures.items (begins (record_at c.args.runs) room_after c.args.count c.args.room c.args.reader.now)

pub returns-in_err-record : goal.returns-in_err-record
returns-in_err-record c =
    let p = err_from_is_err_and c.from_residual-in_err-record.result c.from_residual-in_err-record.ensures.1 in
    rw (p.1, p.2)
    (fails_on OutOfMemory c.in_err-record.field-0.0 (record_at c.args.runs c.loop.left c.loop.reader) (repeat_at (record_at c.args.runs) room_after c.args.count c.args.room c.args.reader.now)
    (λ e. ends (record_at c.args.runs) room_after c.loop.records.items c.args.count c.loop.counter c.loop.left c.loop.reader c.in_err-record.field-0.0 (repeat_at (record_at c.args.runs) room_after c.args.count c.args.room c.args.reader.now) c.loop-test.true e c.loop.invariant) c.in_err-record.ensures.record)

pub loop-preserved : goal.loop-preserved
loop-preserved c =
    rw c.in_ok-push.ensures.items
    (rw c.in_ok-record.ensures.room (goes_on (record_at c.args.runs) room_after c.loop.records.items c.args.count c.loop.counter c.loop.left c.loop.reader c.in_ok-record.record c.record_of.new.reader (repeat_at (record_at c.args.runs) room_after c.args.count c.args.room c.args.reader.now) c.loop-test.true c.in_ok-record.ensures.record c.loop.invariant))

pub returns : goal.returns
returns c = is_done (record_at c.args.runs) room_after c.loop.records.items c.args.count c.loop.counter c.loop.left c.loop.reader (repeat_at (record_at c.args.runs) room_after c.args.count c.args.room c.args.reader.now) c.loop-test.false c.loop.invariant
