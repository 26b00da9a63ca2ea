use Rattle.tp_list.proofs.Members.{In-get_or}
use Rattle.std.proofs.Common.{◌<◌, ℕ, List, subst, sym, ◌∙◌, ap, arith, length}
use Rattle.tp_list.specs.Members.{In}
use Rattle.tp_posindex.specs.Laid.{Layout, IsNumbered}
use Rattle.tp_posindex.specs.Layout.{concat_blocks, block_at}
use Rattle.tp_posindex.proofs.Joining.{In-concat_blocks, In-block, index_at-within}
use Rattle.tp_posindex.proofs.Laying.{order_within, block_read, length-blocks_in_order}
use Rattle.tp_posindex.proofs.blocks.Blocks.block.Goals as goal

pub index-requires-2 : goal.index-requires-2
index-requires-2 c =
    let s = c.self.inside in
    let at : c.args.block < length s.order.items = omega (arith, length-blocks_in_order s.pool.items s.order.items, ap (λ (v : Layout). length v.blocks) c.self.view_is) in
    let within = order_within s.pool.items s.order.items c.args.block c.index.result.now c.self.invariant.blocks.ordered at c.index.ensures in
    omega (arith, within)

pub returns-clause-value : goal.returns-clause-value
returns-clause-value c =
    let s = c.self.inside in
    let at : c.args.block < length s.order.items = omega (arith, length-blocks_in_order s.pool.items s.order.items, ap (λ (v : Layout). length v.blocks) c.self.view_is) in
    c.numbers.ensures.value ∙ block_read s.pool.items s.order.items c.args.block c.index.result.now c.index-2.result.now c.self.invariant.blocks.ordered at c.index.ensures c.index-2.ensures ∙ ap (λ (v : Layout). block_at v.blocks c.args.block) c.self.view_is

pub returns-clause-below : goal.returns-clause-below
returns-clause-below c =
    let s = c.self.inside in
    let bs = c.args.self.now.blocks in
    let numbered : IsNumbered (length c.args.self.now.flags) (concat_blocks bs) = subst (λ (v : Layout). IsNumbered (length v.flags) (concat_blocks v.blocks)) c.self.view_is c.self.invariant.blocks.numbered in
    let is = returns-clause-value c in
    λ k d lt. numbered.below _ (In-concat_blocks _ c.numbers.result.now bs (subst (λ (z : List ℕ). In z bs) (sym is) (In-block bs c.args.block c.requires)) (In-get_or c.numbers.result.now k d lt))

pub returns-clause-fits : goal.returns-clause-fits
returns-clause-fits c =
    let s = c.self.inside in
    let bs = c.args.self.now.blocks in
    let numbered : IsNumbered (length s.deleted.items) (concat_blocks bs) = subst (λ (v : Layout). IsNumbered (length s.deleted.items) (concat_blocks v.blocks)) c.self.view_is c.self.invariant.blocks.numbered in
    let is = ap length (returns-clause-value c) in
    let within = index_at-within bs c.args.block (length c.numbers.result.now) c.requires (omega (arith, is)) in
    omega (arith, within, numbered.many)
