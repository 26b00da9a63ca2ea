use Rattle.std.proofs.Common.{◌≡◌, [], ◌∷◌, true, not, ◌∙◌, ap}
use Rattle.std.specs.Result.{is_ok}
use Rattle.tp_posindex.specs.Laid.{Layout}
use Rattle.tp_posindex.proofs.Keeping.{BlocksInvariant-first}
use Rattle.tp_posindex.proofs.blocks.Blocks.put_first.Goals as goal

pub invariant_of-self : goal.invariant_of-self
invariant_of-self c =
    let s = c.self.inside in
    let pushed : is_ok c.push.result ≡ true = c.is_err.ensures.negation ∙ ap not c.if-is_err.false in
    let placed : is_ok c.push-else-is_err.result ≡ true = c.is_err-else-is_err.ensures.negation ∙ ap not c.if-is_err-2.false in
    let indexed : is_ok c.push-else-is_err-2.result ≡ true = c.is_err-else-is_err-2.ensures.negation ∙ ap not c.if-is_err-3.false in
    let housed : is_ok c.push-else-is_err-3.result ≡ true = c.is_err-else-is_err-3.ensures.negation ∙ ap not c.if-is_err-4.false in
    let flagged : is_ok c.push-else-is_err-4.result ≡ true = c.is_err-else-is_err-4.ensures.negation ∙ ap not c.if-is_err-5.false in
    let pool_is = rw pushed at c.push.ensures.items in
    let order_is = rw placed at c.push-else-is_err.ensures.items in
    let index_is = rw indexed at c.push-else-is_err-2.ensures.items in
    let home_is = rw housed at c.push-else-is_err-3.ensures.items in
    let flags_is = rw flagged at c.push-else-is_err-4.ensures.items in
    let block_is : c.start-block.result ≡ 0 ∷ [] = c.start-block.ensures in
    let none = ap (λ (v : Layout). v.blocks) c.self.view_is ∙ c.requires.blocks in
    rw (pool_is, order_is, index_is, home_is, flags_is, block_is, c.insert.ensures.counts, c.insert-2.ensures.counts) (BlocksInvariant-first s.pool.items s.order.items s.index.items s.lens.counts s.visible.counts s.home.items s.deleted.items c.self.invariant none)
