use Rattle.std.proofs.Common.{None}
use Rattle.std.proofs.lemmas.Result.{err_from_is_err_and}
use Rattle.tp_codec.specs.Reading.{repeat_at}
use Rattle.tp_layout.specs.Reading.{dep_at, next_before}
use Rattle.tp_codec.proofs.Refusals.{fails_on}
use Rattle.tp_layout.specs.declared.error.ChangeError.TheVariants.{OutOfMemory}
use Rattle.tp_layout.proofs.OneLaws.{one_there, one_refused}
use Rattle.tp_layout.proofs.reading.one_dep_of.Goals as goal

pub returns-in_err-dep_of : goal.returns-in_err-dep_of
returns-in_err-dep_of c =
    let p = err_from_is_err_and c.from_residual.result c.from_residual.ensures.1 in
    rw (p.1, p.2)
    (fails_on OutOfMemory c.in_err-dep_of.field-0.0 (dep_at None c.args.reader.now) (repeat_at dep_at next_before 1 None c.args.reader.now)
    (one_refused dep_at next_before None c.in_err-dep_of.field-0.0 c.args.reader.now) c.in_err-dep_of.ensures)

pub returns : goal.returns
returns c = (one_there dep_at next_before None c.in_ok-dep_of.field-0 c.args.reader.now c.dep_of.new.reader c.in_ok-dep_of.ensures)
