use Rattle.std.proofs.Common.{◌≡◌, ℕ, ◌<◌, ◌+◌, ◌/◌, ◌^◌, length, sum as total, get_or, sym, ◌∙◌, subst, arith}
use Rattle.std.proofs.lemmas.List.Sums.{get_or-le-sum_by}
use Rattle.tp_elements.proofs.Lists.{get_or-any}
use Rattle.tp_posindex.specs.CountsState.{CountsState}
use Rattle.tp_posindex.proofs.Grouping.{counted_group, counted_range, sum-ranges, IsSummed-set}
use Rattle.tp_posindex.proofs.counts.Counts.raise.Goals as goal

pub overflow_add-index_mut-3 : goal.overflow_add-index_mut-3
overflow_add-index_mut-3 c =
    let s = c.self.inside in
    let i = c.args.index in
    let C = s.counts.items in
    let S = s.sums.items in
    let R = s.range_sums.items in
    let z = c.index_mut-3.result.now in
    let lt : i < length C = subst (λ (v : CountsState). i < length v.counts) (sym c.self.view_is) c.requires.index in
    let fits = subst (λ (v : CountsState). total v.counts + 1 < 2 ^ 32) (sym c.self.view_is) c.requires.fits in
    let range_sum : z ≡ get_or R (i / 128 / 16) 0 = c.index_mut-3.ensures.value ∙ get_or-any R (i / 128 / 16) z 0 (counted_range C S R i c.self.invariant lt) in
    let within = get_or-le-sum_by (λ (x : ℕ). x) R (i / 128 / 16) 0 (counted_range C S R i c.self.invariant lt) in
    let whole = sum-ranges C S R c.self.invariant in
    omega (arith, range_sum, within, whole, fits)

pub invariant_of-self : goal.invariant_of-self
invariant_of-self c =
    let s = c.self.inside in
    let i = c.args.index in
    let C = s.counts.items in
    let S = s.sums.items in
    let R = s.range_sums.items in
    let x = c.index_mut.result.now in
    let y = c.index_mut-2.result.now in
    let z = c.index_mut-3.result.now in
    let lt : i < length C = subst (λ (v : CountsState). i < length v.counts) (sym c.self.view_is) c.requires.index in
    let fits = subst (λ (v : CountsState). total v.counts + 1 < 2 ^ 32) (sym c.self.view_is) c.requires.fits in
    let count : x ≡ get_or C i 0 = c.index_mut.ensures.value ∙ get_or-any C i x 0 lt in
    let sum : y ≡ get_or S (i / 128) 0 = c.index_mut-2.ensures.value ∙ get_or-any S (i / 128) y 0 (counted_group C S R i c.self.invariant lt) in
    let range_sum : z ≡ get_or R (i / 128 / 16) 0 = c.index_mut-3.ensures.value ∙ get_or-any R (i / 128 / 16) z 0 (counted_range C S R i c.self.invariant lt) in
    IsSummed-set C S R i (x + 1) (y + 1) (z + 1) c.self.invariant lt (omega (arith, count, sum)) (omega (arith, count, range_sum)) (omega (arith, count, fits))
