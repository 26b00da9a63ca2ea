use Rattle.std.proofs.Common.{◌≡◌, ◌<◌, ◌≤◌, List, ℕ, [], ◌∷◌, ◌++◌, false, sym, ◌∙◌, ap, subst, arith, length, get_or, map, suc, insert, set}
use Rattle.std.proofs.lemmas.Grind.{common_steps}
use Rattle.tp_elements.proofs.Lists.{get_or-any, length-inserted}
use Rattle.tp_posindex.specs.Laid.{Layout, blocks_in_order}
use Rattle.tp_posindex.specs.Layout.{block_at}
use Rattle.tp_posindex.proofs.Laying.{PoolInvariant-put, order_within, block_read, length-blocks_in_order, laid_written}
use Rattle.tp_posindex.proofs.Keeping.{many_kept, kept_within, measured_put}
use Rattle.tp_posindex.proofs.blocks.Blocks.put_in.Goals as goal

pub index_mut-block-requires : goal.index_mut-block-requires
index_mut-block-requires c =
    let s = c.self.inside in
    let at : c.args.spot.block < length s.order.items = omega (arith, length-blocks_in_order s.pool.items s.order.items, ap (λ (v : Layout). length v.blocks) c.self.view_is, c.requires.block) in
    let within = order_within s.pool.items s.order.items c.args.spot.block c.index-home.result.now c.self.invariant.blocks.ordered at c.index-home.ensures in
    omega (arith, within)

pub put-requires-clause-room : goal.put-requires-clause-room
put-requires-clause-room c =
    let s = c.self.inside in
    let at : c.args.spot.block < length s.order.items = omega (arith, length-blocks_in_order s.pool.items s.order.items, ap (λ (v : Layout). length v.blocks) c.self.view_is, c.requires.block) in
    let read = block_read s.pool.items s.order.items c.args.spot.block c.index-home.result.now c.index_mut-block.result.now c.self.invariant.blocks.ordered at c.index-home.ensures c.index_mut-block.ensures.value ∙ ap (λ (v : Layout). block_at v.blocks c.args.spot.block) c.self.view_is in
    subst (λ (z : List ℕ). length z < 128) (sym read) c.requires.few

pub raise-requires-clause-index : goal.raise-requires-clause-index
raise-requires-clause-index c =
    let s = c.self.inside in
    let many = many_kept s.pool.items s.order.items s.index.items s.lens.counts s.visible.counts s.home.items s.deleted.items c.self.invariant in
    omega (arith, many.0, ap (λ (v : Layout). length v.blocks) c.self.view_is, c.requires.block)

pub raise-requires-clause-fits : goal.raise-requires-clause-fits
raise-requires-clause-fits c =
    let s = c.self.inside in
    let within = kept_within s.pool.items s.order.items s.index.items s.lens.counts s.visible.counts s.home.items s.deleted.items c.self.invariant in
    let room = subst (λ (v : Layout). 0 < v.slots) (sym c.self.view_is) c.requires.slots in
    omega (arith, within.0, room)

pub raise-requires-2-clause-index : goal.raise-requires-2-clause-index
raise-requires-2-clause-index c =
    let s = c.self.inside in
    let many = many_kept s.pool.items s.order.items s.index.items s.lens.counts s.visible.counts s.home.items s.deleted.items c.self.invariant in
    omega (arith, many.1, ap (λ (v : Layout). length v.blocks) c.self.view_is, c.requires.block)

pub raise-requires-2-clause-fits : goal.raise-requires-2-clause-fits
raise-requires-2-clause-fits c =
    let s = c.self.inside in
    let within = kept_within s.pool.items s.order.items s.index.items s.lens.counts s.visible.counts s.home.items s.deleted.items c.self.invariant in
    let room = subst (λ (v : Layout). 0 < v.slots) (sym c.self.view_is) c.requires.slots in
    omega (arith, within.1, room)

pub invariant_of-self : goal.invariant_of-self
invariant_of-self c =
    let s = c.self.inside in
    let bs = blocks_in_order s.pool.items s.order.items in
    let at : c.args.spot.block < length s.order.items = omega (arith, length-blocks_in_order s.pool.items s.order.items, ap (λ (v : Layout). length v.blocks) c.self.view_is, c.requires.block) in
    let at_bs : c.args.spot.block < length bs = omega (arith, length-blocks_in_order s.pool.items s.order.items) in
    let read = block_read s.pool.items s.order.items c.args.spot.block c.index-home.result.now c.index_mut-block.result.now c.self.invariant.blocks.ordered at c.index-home.ensures c.index_mut-block.ensures.value in
    let seen : c.index_mut-block.result.now ≡ block_at c.args.self.now.blocks c.args.spot.block = read ∙ ap (λ (v : Layout). block_at v.blocks c.args.spot.block) c.self.view_is in
    let home_is : c.push.new.self.items ≡ s.home.items ++ c.index-home.result.now ∷ [] = grind (arith, common_steps) in
    let flags_is : c.push-else-is_err.new.self.items ≡ s.deleted.items ++ false ∷ [] = grind (arith, common_steps) in
    let number_is : c.len-number.result ≡ length s.deleted.items = omega arith in
    let in_pool = order_within s.pool.items s.order.items c.args.spot.block c.index-home.result.now c.self.invariant.blocks.ordered at c.index-home.ensures in
    let held : c.index_mut-block.result.now ≡ block_at s.pool.items c.index-home.result.now = c.index_mut-block.ensures.value ∙ get_or-any s.pool.items c.index-home.result.now c.index_mut-block.result.now [] in_pool in
    let offset : c.args.spot.offset ≤ length (block_at s.pool.items c.index-home.result.now) = subst (λ (z : List ℕ). c.args.spot.offset ≤ length z) (sym seen ∙ held) c.requires.offset in
    let few : length (block_at s.pool.items c.index-home.result.now) < 128 = subst (λ (z : List ℕ). length z < 128) (sym seen ∙ held) c.requires.few in
    let written : c.put.new.self ≡ insert (block_at s.pool.items c.index-home.result.now) c.args.spot.offset c.len-number.result = c.put.ensures ∙ ap (λ (z : List ℕ). insert z c.args.spot.offset c.len-number.result) held in
    let many = many_kept s.pool.items s.order.items s.index.items s.lens.counts s.visible.counts s.home.items s.deleted.items c.self.invariant in
    let v = get_or s.visible.counts c.args.spot.block 0 in
    let v_is : v ≡ get_or s.visible.counts c.args.spot.block v = get_or-any s.visible.counts c.args.spot.block 0 v (omega (arith, many.1)) in
    let size : length c.put.new.self ≡ suc (length (block_at bs c.args.spot.block)) = ap (λ (z : List ℕ). length z) c.put.ensures ∙ length-inserted c.index_mut-block.result.now c.args.spot.offset c.len-number.result ∙ ap (λ (z : List ℕ). suc (length z)) read in
    rw (home_is, flags_is, c.raise-2.ensures.counts, c.raise.ensures.counts) (record {
      blocks = PoolInvariant-put s.pool.items s.order.items s.visible.counts s.home.items s.deleted.items c.args.spot.block c.args.spot.offset c.index-home.result.now c.len-number.result v c.put.new.self c.self.invariant.blocks at c.index-home.ensures number_is v_is written offset few;
      many = c.self.invariant.many;
      indexed = c.self.invariant.indexed;
      measured = measured_put bs s.lens.counts c.args.spot.block c.put.new.self c.self.invariant.measured at_bs size
          ∙ ap (map (λ (z : List ℕ). length z)) (sym (laid_written s.pool.items s.order.items c.args.spot.block c.index-home.result.now c.put.new.self c.self.invariant.blocks.ordered at c.index-home.ensures));
    })

pub returns-clause-blocks : goal.returns-clause-blocks
returns-clause-blocks c =
    let s = c.self.inside in
    let at : c.args.spot.block < length s.order.items = omega (arith, length-blocks_in_order s.pool.items s.order.items, ap (λ (v : Layout). length v.blocks) c.self.view_is, c.requires.block) in
    let read = block_read s.pool.items s.order.items c.args.spot.block c.index-home.result.now c.index_mut-block.result.now c.self.invariant.blocks.ordered at c.index-home.ensures c.index_mut-block.ensures.value in
    let seen : c.index_mut-block.result.now ≡ block_at c.args.self.now.blocks c.args.spot.block = read ∙ ap (λ (v : Layout). block_at v.blocks c.args.spot.block) c.self.view_is in
    let number_is : c.len-number.result ≡ length s.deleted.items = omega arith in
    laid_written s.pool.items s.order.items c.args.spot.block c.index-home.result.now c.put.new.self c.self.invariant.blocks.ordered at c.index-home.ensures
    ∙ ap (set (blocks_in_order s.pool.items s.order.items) c.args.spot.block) (c.put.ensures ∙ ap (λ (z : List ℕ). insert z c.args.spot.offset c.len-number.result) seen ∙ ap (insert (block_at c.args.self.now.blocks c.args.spot.block) c.args.spot.offset) (number_is ∙ ap (λ (v : Layout). length v.flags) c.self.view_is))
    ∙ ap (λ (v : Layout). set v.blocks c.args.spot.block (insert (block_at c.args.self.now.blocks c.args.spot.block) c.args.spot.offset (length c.args.self.now.flags))) c.self.view_is
