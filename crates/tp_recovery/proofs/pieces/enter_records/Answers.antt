use Rattle.std.proofs.Common.{◌++◌, arith}
use Rattle.tp_recovery.specs.Layout.{record_of}
use Rattle.tp_recovery.proofs.PieceLaws.{after_refused, after_next, read_more}
use Rattle.tp_recovery.proofs.pieces.enter_records.Goals as goal

pub overflow_add-recovered : goal.overflow_add-recovered
overflow_add-recovered g c =
    let next = rw c.in-Ok-Some.field-0-is at c.in-Ok-Some.ensures.next in
    let more = after_next c.args._came.now.bytes c.records.recovered.document c.enter_next.new.document c.records.recovered.keep c.records.rest.now c.in-Ok-Some.next.now next.0
    c.records.invariant.beyond next.1 c.in-Ok-Some.ensures.id next.2 c.in-Ok-Some.ensures.waiting c.history.ensures in
    let fits = more.fits in
    omega arith

pub records-preserved : goal.records-preserved
records-preserved g c =
    let next = rw c.in-Ok-Some.field-0-is at c.in-Ok-Some.ensures.next in
    let more = after_next c.args._came.now.bytes c.records.recovered.document c.enter_next.new.document c.records.recovered.keep c.records.rest.now c.in-Ok-Some.next.now next.0
    c.records.invariant.beyond next.1 c.in-Ok-Some.ensures.id next.2 c.in-Ok-Some.ensures.waiting c.history.ensures in
    let read = c.records.invariant.read in
    record {
      beyond = more.beyond;
      read = (read.0 ++ record_of next.0, read_more c.args.bytes.now read.0 c.records.rest.now (record_of next.0) c.in-Ok-Some.next.now read.1 next.1);
    }

pub returns-in-Err-clause-err : goal.returns-in-Err-clause-err
returns-in-Err-clause-err g c =
    after_refused c.args._came.now.bytes c.records.recovered.document c.records.recovered.keep c.records.rest.now c.in-Err.error
    c.records.invariant.beyond c.in-Err.ensures.err
