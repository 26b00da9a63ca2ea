use Rattle.std.proofs.Common.{◌≡◌, ◌<◌, ◌-◌, suc, sym, ◌∙◌, ap, arith, length}
use Rattle.tp_posindex.specs.Laid.{Layout}
use Rattle.tp_posindex.specs.Layout.{index_at}
use Rattle.tp_posindex.proofs.Joining.{index_at-next, index_at-end}
use Rattle.tp_posindex.proofs.Laying.{length-blocks_in_order}
use Rattle.tp_posindex.proofs.blocks.Blocks.end.Goals as goal

pub returns-clause-end : goal.returns-clause-end
returns-clause-end c =
    let s = c.self.inside in
    let bs = c.args.self.now.blocks in
    let many : length s.order.items ≡ length bs = sym (length-blocks_in_order s.pool.items s.order.items) ∙ ap (λ (v : Layout). length v.blocks) c.self.view_is in
    let last : suc (c.len-count.result - 1) ≡ length bs = omega arith in
    let lt : c.len-count.result - 1 < length bs = omega arith in
    ap (λ n. index_at bs (c.len-count.result - 1) (length n)) c.block.ensures.value
    ∙ sym (index_at-next bs (c.len-count.result - 1) lt)
    ∙ ap (λ n. index_at bs n 0) last
    ∙ index_at-end bs
