use Rattle.std.proofs.Common.{◌<◌, ◌-◌, ◌^◌, length, get_or, sum as total, sym, ap, subst, arith}
use Rattle.tp_posindex.specs.CountsState.{CountsState}
use Rattle.tp_posindex.proofs.Grouping.{sum-set}
use Rattle.tp_posindex.proofs.counts.Counts.split.Goals as goal

pub overflow_add-index : goal.overflow_add-index
overflow_add-index c =
    let lt = subst (λ (v : CountsState). c.args.index < length v.counts) (sym c.self.view_is) c.requires.index in
    omega (arith, lt)

pub insert-requires-clause-fits : goal.insert-requires-clause-fits
insert-requires-clause-fits c =
    let s = c.self.inside in
    let i = c.args.index in
    let C = c.args.self.now.counts in
    let fits : total C < 2 ^ 32 = subst (λ (v : CountsState). total v.counts < 2 ^ 32) c.self.view_is c.self.invariant.groups.fits in
    let is = ap total c.lower.ensures.counts in
    let set = sum-set C i (get_or C i 0 - c.args.back) c.requires.index in
    omega (arith, is, set, fits, c.requires.enough)
