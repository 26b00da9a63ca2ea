use Rattle.std.proofs.Common.{None}
use Rattle.std.proofs.lemmas.Result.{err_from_is_err_and}
use Rattle.tp_codec.proofs.Loops.{begins, goes_on, ends, is_done}
use Rattle.tp_codec.specs.Reading.{repeat_at}
use Rattle.tp_layout.specs.Reading.{dep_at, next_before}
use Rattle.tp_codec.proofs.Refusals.{fails_on}
use Rattle.tp_layout.specs.declared.error.ChangeError.TheVariants.{OutOfMemory}
use Rattle.tp_layout.proofs.reading.counted_deps_of.Goals as goal

pub loop-init : goal.loop-init
loop-init c = rw c.in_ok-deps.ensures.items (begins dep_at next_before c.args.count None c.args.reader.now)

pub returns-in_err-hash : goal.returns-in_err-hash
returns-in_err-hash c =
    let p = err_from_is_err_and c.from_residual-in_err-hash.result c.from_residual-in_err-hash.ensures.1 in
    rw (p.1, p.2)
    (fails_on OutOfMemory c.in_err-hash.field-0.0 (dep_at c.loop.before c.loop.reader) (repeat_at dep_at next_before c.args.count None c.args.reader.now)
    (λ e. ends dep_at next_before c.loop.deps.items c.args.count c.loop.counter c.loop.before c.loop.reader c.in_err-hash.field-0.0 (repeat_at dep_at next_before c.args.count None c.args.reader.now) c.loop-test.true e c.loop.invariant) c.in_err-hash.ensures)

pub loop-preserved : goal.loop-preserved
loop-preserved c =
    rw c.in_ok-push.ensures.items
    (goes_on dep_at next_before c.loop.deps.items c.args.count c.loop.counter c.loop.before c.loop.reader c.in_ok-hash.hash c.dep_of.new.reader (repeat_at dep_at next_before c.args.count None c.args.reader.now) c.loop-test.true c.in_ok-hash.ensures c.loop.invariant)

pub returns : goal.returns
returns c = is_done dep_at next_before c.loop.deps.items c.args.count c.loop.counter c.loop.before c.loop.reader (repeat_at dep_at next_before c.args.count None c.args.reader.now) c.loop-test.false c.loop.invariant
