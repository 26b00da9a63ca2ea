use Rattle.std.proofs.lemmas.Result.{err_from_is_err_and}
use Rattle.tp_codec.proofs.Loops.{begins, goes_on, ends, is_done}
use Rattle.tp_codec.proofs.Refusals.{fails_on}
use Rattle.tp_mirror.specs.StateFile.{items_at}
use Rattle.tp_mirror.specs.declared.state_error.StateError.TheVariants.{OutOfMemory}
use Rattle.tp_mirror.proofs.encoding.items_of.Goals as goal

pub loop-init : goal.loop-init
loop-init g c = rw c.new-items.ensures.items (begins (λ (_ : Unit {0}). g.T.Encoded.field) (λ s _. s) c.args.count tt c.args.reader.now)

pub returns-in_err-item : goal.returns-in_err-item
returns-in_err-item g c =
    let p = err_from_is_err_and c.from_residual.result c.from_residual.ensures.1 in
    rw (p.1, p.2)
    (fails_on OutOfMemory c.in_err-item.field-0.0 (g.T.Encoded.field c.loop.reader) (items_at g.T.Encoded.field c.args.count c.args.reader.now)
    (λ e. ends (λ (_ : Unit {0}). g.T.Encoded.field) (λ s _. s) c.loop.items.items c.args.count c.loop.counter tt c.loop.reader c.in_err-item.field-0.0 (items_at g.T.Encoded.field c.args.count c.args.reader.now) c.loop-test.true e c.loop.invariant) c.in_err-item.ensures)

pub loop-preserved : goal.loop-preserved
loop-preserved g c =
    rw c.in_ok-push.ensures.items
    (goes_on (λ (_ : Unit {0}). g.T.Encoded.field) (λ s _. s) c.loop.items.items c.args.count c.loop.counter tt c.loop.reader c.in_ok-item.item c.read.new.reader (items_at g.T.Encoded.field c.args.count c.args.reader.now) c.loop-test.true c.in_ok-item.ensures c.loop.invariant)

pub returns : goal.returns
returns g c = is_done (λ (_ : Unit {0}). g.T.Encoded.field) (λ s _. s) c.loop.items.items c.args.count c.loop.counter tt c.loop.reader (items_at g.T.Encoded.field c.args.count c.args.reader.now) c.loop-test.false c.loop.invariant
