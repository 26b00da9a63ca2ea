use Rattle.std.proofs.Common.{◌≡◌, ◌<◌, ◌≤◌, ◌-◌, ◌/◌, length, get_or, sym, ◌∙◌, subst, arith}
use Rattle.tp_elements.proofs.Lists.{get_or-any}
use Rattle.tp_posindex.specs.CountsState.{CountsState}
use Rattle.tp_posindex.proofs.Grouping.{counted_group, counted_range, count_within_group, group_within_range, IsSummed-set}
use Rattle.tp_posindex.proofs.counts.Counts.lower.Goals as goal

pub overflow_sub-index_mut-2 : goal.overflow_sub-index_mut-2
overflow_sub-index_mut-2 c =
    let s = c.self.inside in
    let i = c.args.index in
    let C = s.counts.items in
    let S = s.sums.items in
    let R = s.range_sums.items in
    let y = c.index_mut-2.result.now in
    let lt : i < length C = subst (λ (v : CountsState). i < length v.counts) (sym c.self.view_is) c.requires.index in
    let enough = subst (λ (v : CountsState). c.args.by ≤ get_or v.counts i 0) (sym c.self.view_is) c.requires.enough in
    let sum : y ≡ get_or S (i / 128) 0 = c.index_mut-2.ensures.value ∙ get_or-any S (i / 128) y 0 (counted_group C S R i c.self.invariant lt) in
    let within = count_within_group C S R i c.self.invariant lt in
    omega (arith, sum, within, enough)

pub overflow_sub-index_mut-3 : goal.overflow_sub-index_mut-3
overflow_sub-index_mut-3 c =
    let s = c.self.inside in
    let i = c.args.index in
    let C = s.counts.items in
    let S = s.sums.items in
    let R = s.range_sums.items in
    let z = c.index_mut-3.result.now in
    let lt : i < length C = subst (λ (v : CountsState). i < length v.counts) (sym c.self.view_is) c.requires.index in
    let enough = subst (λ (v : CountsState). c.args.by ≤ get_or v.counts i 0) (sym c.self.view_is) c.requires.enough in
    let sum : z ≡ get_or R (i / 128 / 16) 0 = c.index_mut-3.ensures.value ∙ get_or-any R (i / 128 / 16) z 0 (counted_range C S R i c.self.invariant lt) in
    let within = count_within_group C S R i c.self.invariant lt in
    let within' = group_within_range C S R i c.self.invariant lt in
    omega (arith, sum, within, within', enough)

pub invariant_of-self : goal.invariant_of-self
invariant_of-self c =
    let s = c.self.inside in
    let i = c.args.index in
    let C = s.counts.items in
    let S = s.sums.items in
    let R = s.range_sums.items in
    let x = c.index_mut.result.now in
    let y = c.index_mut-2.result.now in
    let z = c.index_mut-3.result.now in
    let lt : i < length C = subst (λ (v : CountsState). i < length v.counts) (sym c.self.view_is) c.requires.index in
    let enough = subst (λ (v : CountsState). c.args.by ≤ get_or v.counts i 0) (sym c.self.view_is) c.requires.enough in
    let count : x ≡ get_or C i 0 = c.index_mut.ensures.value ∙ get_or-any C i x 0 lt in
    let sum : y ≡ get_or S (i / 128) 0 = c.index_mut-2.ensures.value ∙ get_or-any S (i / 128) y 0 (counted_group C S R i c.self.invariant lt) in
    let range_sum : z ≡ get_or R (i / 128 / 16) 0 = c.index_mut-3.ensures.value ∙ get_or-any R (i / 128 / 16) z 0 (counted_range C S R i c.self.invariant lt) in
    let within = count_within_group C S R i c.self.invariant lt in
    let within' = group_within_range C S R i c.self.invariant lt in
    let fits = c.self.invariant.groups.fits in
    IsSummed-set C S R i (x - c.args.by) (y - c.args.by) (z - c.args.by) c.self.invariant lt
    (omega (arith, count, sum, within, enough))
    (omega (arith, count, range_sum, within, within', enough))
    (omega (arith, count, enough, fits))
