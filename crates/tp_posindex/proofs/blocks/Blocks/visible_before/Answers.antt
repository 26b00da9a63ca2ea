use Rattle.std.proofs.Common.{◌≡◌, ◌<◌, ◌+◌, ◌^◌, ℕ, List, Bool, map, sum, take, ◌∙◌, ap, subst, arith, length, length-take}
use Rattle.std.proofs.lemmas.List.{length-map}
use Rattle.tp_posindex.specs.Laid.{Layout, count_visible}
use Rattle.tp_posindex.specs.Layout.{concat_blocks, block_at, index_at}
use Rattle.tp_posindex.proofs.Laying.{counts_before, count_before, count-le}
use Rattle.tp_posindex.proofs.blocks.Blocks.visible_before.Goals as goal

pub sum_before-requires : goal.sum_before-requires
sum_before-requires c =
    let s = c.self.inside in
    let counted = subst (λ (v : Layout). s.visible.counts ≡ map (count_visible v.flags) v.blocks) c.self.view_is c.self.invariant.blocks.counted in
    let many = ap length counted ∙ length-map c.args.self.now.blocks (count_visible c.args.self.now.flags) in
    omega (arith, many, c.requires.block)

pub overflow_add-result : goal.overflow_add-result
overflow_add-result c =
    let s = c.self.inside in
    let bs = c.args.self.now.blocks in
    let f = c.args.self.now.flags in
    let counted = subst (λ (v : Layout). s.visible.counts ≡ map (count_visible v.flags) v.blocks) c.self.view_is c.self.invariant.blocks.counted in
    let prefix = concat_blocks (take c.args.spot.block bs) in
    let is : sum (take c.args.spot.block s.visible.counts) ≡ count_visible f prefix = ap (λ (z : List ℕ). sum (take c.args.spot.block z)) counted ∙ counts_before f bs c.args.spot.block in
    let le = count-le f prefix in
    let part = count-le c.deref.result.now (take c.args.spot.offset c.block-numbers.result.now) in
    let short = length-take c.args.spot.offset c.block-numbers.result.now in
    let fits : index_at bs c.args.spot.block (length c.block-numbers.result.now) < 2 ^ 64 = c.block-numbers.ensures.fits in
    omega (arith, is, le, fits, part, short, c.sum_before.ensures, c.count_down.ensures)

pub returns : goal.returns
returns c =
    let s = c.self.inside in
    let bs = c.args.self.now.blocks in
    let f = c.args.self.now.flags in
    let counted = subst (λ (v : Layout). s.visible.counts ≡ map (count_visible v.flags) v.blocks) c.self.view_is c.self.invariant.blocks.counted in
    let same : c.deref.result.now ≡ f = c.deref.ensures.value ∙ ap (λ (v : Layout). v.flags) c.self.view_is in
    let part : c.count_down.result ≡ count_visible f (take c.args.spot.offset (block_at bs c.args.spot.block)) =
    c.count_down.ensures ∙ ap (λ (z : List Bool). count_visible z (take c.args.spot.offset c.block-numbers.result.now)) same ∙ ap (λ (z : List ℕ). count_visible f (take c.args.spot.offset z)) c.block-numbers.ensures.value in
    ap (λ n. n + c.count_down.result) c.sum_before.ensures
    ∙ ap (λ n. sum (take c.args.spot.block s.visible.counts) + n) part
    ∙ count_before f bs s.visible.counts c.args.spot.block c.args.spot.offset counted c.requires.block c.requires.offset
