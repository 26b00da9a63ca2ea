use Rattle.std.proofs.Common.{◌≡◌, ◌≤◌, ◌+◌, ◌-◌, ◌*◌, ◌/◌, ℕ, length, take, drop, sum, sym, ◌∙◌, ap, subst, arith}
use Rattle.std.proofs.lemmas.List.Sums.{sum_by-take-le}
use Rattle.tp_posindex.specs.CountsState.{CountsState}
use Rattle.tp_posindex.proofs.Laying.{sum_stretch-le}
use Rattle.tp_posindex.proofs.Grouping.{sum-sums, sum_parts}
use Rattle.tp_posindex.proofs.counts.Counts.sum_before.Goals as goal

pub total-requires-2 : goal.total-requires-2
total-requires-2 c =
    let s = c.self.inside in
    let g = c.args.index / 128 in
    let from = g / 16 * 16 in
    let le = sum_stretch-le from (g - from) c.deref-2.result.now in
    let same = ap sum c.deref-2.ensures.value in
    let whole = sum-sums 128 s.counts.items s.sums.items c.self.invariant.groups in
    omega (arith, le, same, whole, c.self.invariant.groups.fits)

pub overflow_add-result : goal.overflow_add-result
overflow_add-result c =
    let s = c.self.inside in
    let i = c.args.index in
    let g = i / 128 in
    let r = g / 16 in
    let within = subst (λ (v : CountsState). i ≤ length v.counts) (sym c.self.view_is) c.requires in
    let first = c.total.ensures ∙ ap (λ z. sum (take r z)) c.deref.ensures.value in
    let second = c.total-2.ensures ∙ ap (λ z. sum (take (g - r * 16) (drop (r * 16) z))) c.deref-2.ensures.value in
    let all = sum_parts s.counts.items s.sums.items s.range_sums.items i c.self.invariant within in
    let part = sum_by-take-le (λ (x : ℕ). x) s.counts.items i in
    omega (arith, first, second, all, part, c.self.invariant.groups.fits)

pub total-requires-3 : goal.total-requires-3
total-requires-3 c =
    let from = c.args.index / 128 * 128 in
    let le = sum_stretch-le from (c.args.index - from) c.deref-3.result.now in
    let same = ap sum c.deref-3.ensures.value in
    omega (arith, le, same, c.self.invariant.groups.fits)

pub overflow_add-result-2 : goal.overflow_add-result-2
overflow_add-result-2 c =
    let s = c.self.inside in
    let i = c.args.index in
    let g = i / 128 in
    let r = g / 16 in
    let within = subst (λ (v : CountsState). i ≤ length v.counts) (sym c.self.view_is) c.requires in
    let first = c.total.ensures ∙ ap (λ z. sum (take r z)) c.deref.ensures.value in
    let second = c.total-2.ensures ∙ ap (λ z. sum (take (g - r * 16) (drop (r * 16) z))) c.deref-2.ensures.value in
    let third = c.total-3.ensures ∙ ap (λ z. sum (take (i - g * 128) (drop (g * 128) z))) c.deref-3.ensures.value in
    let all = sum_parts s.counts.items s.sums.items s.range_sums.items i c.self.invariant within in
    let part = sum_by-take-le (λ (x : ℕ). x) s.counts.items i in
    omega (arith, first, second, third, all, part, c.self.invariant.groups.fits)

pub returns : goal.returns
returns c =
    let s = c.self.inside in
    let i = c.args.index in
    let C = s.counts.items in
    let S = s.sums.items in
    let R = s.range_sums.items in
    let g = i / 128 in
    let r = g / 16 in
    let within = subst (λ (v : CountsState). i ≤ length v.counts) (sym c.self.view_is) c.requires in
    let first : c.total.result ≡ sum (take r R) = c.total.ensures ∙ ap (λ z. sum (take r z)) c.deref.ensures.value in
    let second : c.total-2.result ≡ sum (take (g - r * 16) (drop (r * 16) S)) = c.total-2.ensures ∙ ap (λ z. sum (take (g - r * 16) (drop (r * 16) z))) c.deref-2.ensures.value in
    let third : c.total-3.result ≡ sum (take (i - g * 128) (drop (g * 128) C)) = c.total-3.ensures ∙ ap (λ z. sum (take (i - g * 128) (drop (g * 128) z))) c.deref-3.ensures.value in
    let all = sum_parts C S R i c.self.invariant within in
    let together : c.total.result + c.total-2.result + c.total-3.result ≡ sum (take i C) = omega (arith, first, second, third, all) in
    together ∙ ap (λ (v : CountsState). sum (take i v.counts)) c.self.view_is
