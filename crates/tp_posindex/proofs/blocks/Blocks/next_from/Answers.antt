use Rattle.std.proofs.Common.{◌≡◌, ◌+◌, ◌<◌, suc, sym, ◌∙◌, ap, arith, length}
use Rattle.tp_posindex.specs.Layout.{concat_blocks, block_at, index_at}
use Rattle.tp_posindex.proofs.Joining.{In-block, index_at-next, index_at-end}
use Rattle.tp_posindex.proofs.blocks.Blocks.next_from.Goals as goal

pub returns-then-block-count-clause-found : goal.returns-then-block-count-clause-found
returns-then-block-count-clause-found c =
    let bs = c.args.self.now.blocks in
    let p = c.args.spot.block in
    let next : suc p ≡ p + 1 = omega arith in
    let lt : p + 1 < length bs = omega arith in
    let some = c.count-count.ensures.sized.some (block_at bs (p + 1)) (In-block bs (p + 1) lt) in
    let size = ap length c.block.ensures.value in
    let whole : c.args.spot.offset ≡ length (block_at bs p) = omega arith in
    (lt, omega arith, ap (λ n. index_at bs n 0) (sym next) ∙ index_at-next bs p c.requires.block ∙ ap (index_at bs p) (sym whole))

pub returns-else-block-count-clause-none : goal.returns-else-block-count-clause-none
returns-else-block-count-clause-none c =
    let bs = c.args.self.now.blocks in
    let p = c.args.spot.block in
    let last : suc p ≡ length bs = omega arith in
    let size = ap length c.block.ensures.value in
    let whole : c.args.spot.offset ≡ length (block_at bs p) = omega arith in
    let all : index_at bs p c.args.spot.offset ≡ length (concat_blocks bs) =
    ap (index_at bs p) whole ∙ sym (index_at-next bs p c.requires.block) ∙ ap (λ n. index_at bs n 0) last ∙ index_at-end bs in
    omega arith
