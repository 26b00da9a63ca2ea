use Rattle.std.proofs.Common.{sum, ap, arith}
use Rattle.tp_posindex.proofs.Grouping.{sum-sums}
use Rattle.tp_posindex.proofs.counts.Counts.insert.Goals as goal

pub sum_up-requires-2-clause-fits : goal.sum_up-requires-2-clause-fits
sum_up-requires-2-clause-fits c =
    let grouped = c.sum_up.ensures.grouped in
    let whole = sum-sums 128 _ _ grouped in
    let same = ap sum c.deref-2.ensures.value in
    omega (arith, whole, same, grouped.fits)
