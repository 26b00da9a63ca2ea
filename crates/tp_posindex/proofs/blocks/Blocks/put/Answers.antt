use Rattle.std.proofs.Common.{◌≡◌, List, Bool, length, insert, ◌∙◌, ap, subst, arith}
use Rattle.std.proofs.lemmas.Bool.Decides.{nat_tests}
use Rattle.tp_posindex.specs.Laid.{Layout}
use Rattle.tp_posindex.specs.Layout.{concat_blocks, index_at, AreSized}
use Rattle.tp_posindex.proofs.Joining.{many_each, insert-concat_blocks, insert-front, insert-back}
use Rattle.tp_posindex.proofs.Laying.{gap_laid, full_laid, IsHalved-blocks_in_order}
use Rattle.tp_posindex.proofs.blocks.Blocks.put.Goals as goal

pub returns-then-block-lt-MOST-clause-joined : goal.returns-then-block-lt-MOST-clause-joined
returns-then-block-lt-MOST-clause-joined c =
    let s = c.self.inside in
    let lt = gap_laid s.pool.items s.order.items c.requires.gap (ap (λ (v : Layout). v.blocks) c.self.view_is) (grind (arith, nat_tests)) in
    ap concat_blocks c.put_in.ensures.blocks ∙ insert-concat_blocks c.args.self.now.blocks c.args.spot.block c.args.spot.offset (length c.args.self.now.flags) lt c.requires.gap.offset_in

pub split-requires-clause-full : goal.split-requires-clause-full
split-requires-clause-full c =
    let s = c.self.inside in
    (full_laid s.pool.items s.order.items c.requires.gap (ap (λ (v : Layout). v.blocks) c.self.view_is) (grind (arith, nat_tests)) c.self.invariant.blocks.sized c.block.ensures.value c.if-block-lt-MOST.false).1

pub split-requires-clause-spare : goal.split-requires-clause-spare
split-requires-clause-spare c =
    let s = c.self.inside in
    let at = full_laid s.pool.items s.order.items c.requires.gap (ap (λ (v : Layout). v.blocks) c.self.view_is) (grind (arith, nat_tests)) c.self.invariant.blocks.sized c.block.ensures.value c.if-block-lt-MOST.false in
    let sized = subst (λ (v : Layout). AreSized v.blocks) c.self.view_is c.self.invariant.blocks.sized in
    let each = many_each c.args.self.now.blocks c.args.spot.block sized at.0 at.1 in
    let numbers : length (concat_blocks c.args.self.now.blocks) ≡ length c.args.self.now.flags = subst (λ (v : Layout). length (concat_blocks v.blocks) ≡ length v.flags) c.self.view_is c.self.invariant.blocks.numbered.many in
    omega (arith, each, numbers, c.requires.room)

pub put_in-requires-then-spot-le-HALF-clause-offset : goal.put_in-requires-then-spot-le-HALF-clause-offset
put_in-requires-then-spot-le-HALF-clause-offset c =
    let s = c.self.inside in
    let halved = IsHalved-blocks_in_order s.pool.items s.order.items c.requires.gap (ap (λ (v : Layout). v.blocks) c.self.view_is) (grind (arith, nat_tests)) c.self.invariant.blocks.sized c.block.ensures.value c.if-block-lt-MOST.false c.split.ensures.blocks in
    omega (arith, halved.front, c.if-spot-le-HALF.true)

pub put_in-requires-then-spot-le-HALF-clause-few : goal.put_in-requires-then-spot-le-HALF-clause-few
put_in-requires-then-spot-le-HALF-clause-few c =
    let s = c.self.inside in
    let halved = IsHalved-blocks_in_order s.pool.items s.order.items c.requires.gap (ap (λ (v : Layout). v.blocks) c.self.view_is) (grind (arith, nat_tests)) c.self.invariant.blocks.sized c.block.ensures.value c.if-block-lt-MOST.false c.split.ensures.blocks in
    omega (arith, halved.front)

pub put_in-requires-else-spot-le-HALF-clause-offset : goal.put_in-requires-else-spot-le-HALF-clause-offset
put_in-requires-else-spot-le-HALF-clause-offset c =
    let s = c.self.inside in
    let halved = IsHalved-blocks_in_order s.pool.items s.order.items c.requires.gap (ap (λ (v : Layout). v.blocks) c.self.view_is) (grind (arith, nat_tests)) c.self.invariant.blocks.sized c.block.ensures.value c.if-block-lt-MOST.false c.split.ensures.blocks in
    omega (arith, halved.back, halved.full, c.requires.gap.offset_in)

pub put_in-requires-else-spot-le-HALF-clause-few : goal.put_in-requires-else-spot-le-HALF-clause-few
put_in-requires-else-spot-le-HALF-clause-few c =
    let s = c.self.inside in
    let halved = IsHalved-blocks_in_order s.pool.items s.order.items c.requires.gap (ap (λ (v : Layout). v.blocks) c.self.view_is) (grind (arith, nat_tests)) c.self.invariant.blocks.sized c.block.ensures.value c.if-block-lt-MOST.false c.split.ensures.blocks in
    omega (arith, halved.back)

pub returns-then-spot-le-HALF-clause-joined : goal.returns-then-spot-le-HALF-clause-joined
returns-then-spot-le-HALF-clause-joined c =
    let s = c.self.inside in
    let halved = IsHalved-blocks_in_order s.pool.items s.order.items c.requires.gap (ap (λ (v : Layout). v.blocks) c.self.view_is) (grind (arith, nat_tests)) c.self.invariant.blocks.sized c.block.ensures.value c.if-block-lt-MOST.false c.split.ensures.blocks in
    ap concat_blocks c.put_in-then-spot-le-HALF.ensures.blocks
    ∙ insert-front c.args.self.now.blocks c.split.new.self.blocks c.args.spot.block c.args.spot.offset (length c.split.new.self.flags) halved c.if-spot-le-HALF.true
    ∙ ap (λ (z : List Bool). insert (concat_blocks c.args.self.now.blocks) (index_at c.args.self.now.blocks c.args.spot.block c.args.spot.offset) (length z)) c.split.ensures.flags

pub returns-else-spot-le-HALF-clause-joined : goal.returns-else-spot-le-HALF-clause-joined
returns-else-spot-le-HALF-clause-joined c =
    let s = c.self.inside in
    let halved = IsHalved-blocks_in_order s.pool.items s.order.items c.requires.gap (ap (λ (v : Layout). v.blocks) c.self.view_is) (grind (arith, nat_tests)) c.self.invariant.blocks.sized c.block.ensures.value c.if-block-lt-MOST.false c.split.ensures.blocks in
    ap concat_blocks c.put_in-else-spot-le-HALF.ensures.blocks
    ∙ insert-back c.args.self.now.blocks c.split.new.self.blocks c.args.spot.block c.args.spot.offset (length c.split.new.self.flags) halved c.if-spot-le-HALF.false (omega (arith, halved.full, c.requires.gap.offset_in))
    ∙ ap (λ (z : List Bool). insert (concat_blocks c.args.self.now.blocks) (index_at c.args.self.now.blocks c.args.spot.block c.args.spot.offset) (length z)) c.split.ensures.flags
