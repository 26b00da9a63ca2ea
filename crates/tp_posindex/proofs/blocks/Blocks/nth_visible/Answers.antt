use Rattle.std.proofs.Common.{◌≡◌, ◌<◌, ◌≤◌, ℕ, List, Bool, map, sum, sym, ◌∙◌, ap, subst, arith, length, get_or}
use Rattle.std.proofs.lemmas.List.{length-map}
use Rattle.tp_posindex.specs.Laid.{Layout, count_visible}
use Rattle.tp_posindex.specs.Layout.{concat_blocks}
use Rattle.tp_posindex.proofs.Laying.{counts_all, count_before}
use Rattle.tp_posindex.proofs.blocks.Blocks.nth_visible.Goals as goal

pub returns-in_err-block-clause-none : goal.returns-in_err-block-clause-none
returns-in_err-block-clause-none c =
    let s = c.self.inside in
    let counted = subst (λ (v : Layout). s.visible.counts ≡ map (count_visible v.flags) v.blocks) c.self.view_is c.self.invariant.blocks.counted in
    let less : sum s.visible.counts ≤ c.args.i = c.in_err-block.ensures.none in
    let all : sum s.visible.counts ≡ count_visible c.args.self.now.flags (concat_blocks c.args.self.now.blocks) = ap sum counted ∙ counts_all c.args.self.now.flags c.args.self.now.blocks in
    rw c.from_residual.ensures (omega (arith, less, all))

pub nth_down-requires : goal.nth_down-requires
nth_down-requires c =
    let s = c.self.inside in
    let same : c.deref.result.now ≡ c.args.self.now.flags = c.deref.ensures.value ∙ ap (λ (v : Layout). v.flags) c.self.view_is in
    subst (λ (z : List Bool). (k d : ℕ) → k < length c.block.result.now → get_or c.block.result.now k d < length z) (sym same) c.block.ensures.below

pub returns-clause-found : goal.returns-clause-found
returns-clause-found c =
    let s = c.self.inside in
    let bs = c.args.self.now.blocks in
    let f = c.args.self.now.flags in
    let p = c.in_ok-block.block in
    let same : c.deref.result.now ≡ f = c.deref.ensures.value ∙ ap (λ (v : Layout). v.flags) c.self.view_is in
    let found = rw (same, c.block.ensures.value) at c.in-Some.ensures.found in
    let counts = subst (λ (v : Layout). s.visible.counts ≡ map (count_visible v.flags) v.blocks) c.self.view_is c.self.invariant.blocks.counted in
    let sums = c.in_ok-block.ensures.found in
    let lt : p < length bs = (let l = ap length counts in let m = length-map bs (count_visible f) in omega (arith, sums.0)) in
    let whole = count_before f bs s.visible.counts p c.in-Some.offset counts lt (omega (arith, found.0)) in
    (lt, found.0, found.1, omega (arith, whole, found.2, sums.1))
