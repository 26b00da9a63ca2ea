use Rattle.std.proofs.Common.{◌≡◌, ◌<◌, false, get_or, sym, subst, arith, length}
use Rattle.tp_elements.proofs.Lists.{get_or-any}
use Rattle.tp_posindex.specs.Laid.{Layout, flag_of}
use Rattle.tp_posindex.specs.Layout.{StandsAt}
use Rattle.tp_posindex.proofs.Laying.{PoolInvariant-hide}
use Rattle.tp_posindex.proofs.Keeping.{many_kept}
use Rattle.tp_posindex.proofs.blocks.Blocks.hide.Goals as goal

pub lower-requires-clause-index : goal.lower-requires-clause-index
lower-requires-clause-index c =
    let s = c.self.inside in
    let at = subst (λ (v : Layout). StandsAt v.blocks c.spot_of-spot.result.block c.spot_of-spot.result.offset c.args.number) (sym c.self.view_is) c.spot_of-spot.ensures.at in
    let many = many_kept s.pool.items s.order.items s.index.items s.lens.counts s.visible.counts s.home.items s.deleted.items c.self.invariant in
    omega (arith, many.1, at.block)

pub lower-requires-clause-enough : goal.lower-requires-clause-enough
lower-requires-clause-enough c =
    let s = c.self.inside in
    let p = c.spot_of-spot.result.block in
    let at = subst (λ (v : Layout). StandsAt v.blocks p c.spot_of-spot.result.offset c.args.number) (sym c.self.view_is) c.spot_of-spot.ensures.at in
    let within = subst (λ (v : Layout). c.args.number < length v.flags) (sym c.self.view_is) c.requires.number in
    let down = subst (λ (v : Layout). flag_of v.flags c.args.number ≡ false) (sym c.self.view_is) c.requires.down in
    let many = many_kept s.pool.items s.order.items s.index.items s.lens.counts s.visible.counts s.home.items s.deleted.items c.self.invariant in
    let v = get_or s.visible.counts p 0 in
    let v_is : v ≡ get_or s.visible.counts p v = get_or-any s.visible.counts p 0 v (omega (arith, many.1, at.block)) in
    (PoolInvariant-hide s.pool.items s.order.items s.visible.counts s.home.items s.deleted.items p c.spot_of-spot.result.offset c.args.number v c.self.invariant.blocks at within down v_is).0

pub invariant_of-self : goal.invariant_of-self
invariant_of-self c =
    let s = c.self.inside in
    let p = c.spot_of-spot.result.block in
    let at = subst (λ (v : Layout). StandsAt v.blocks p c.spot_of-spot.result.offset c.args.number) (sym c.self.view_is) c.spot_of-spot.ensures.at in
    let within = subst (λ (v : Layout). c.args.number < length v.flags) (sym c.self.view_is) c.requires.number in
    let down = subst (λ (v : Layout). flag_of v.flags c.args.number ≡ false) (sym c.self.view_is) c.requires.down in
    let many = many_kept s.pool.items s.order.items s.index.items s.lens.counts s.visible.counts s.home.items s.deleted.items c.self.invariant in
    let v = get_or s.visible.counts p 0 in
    let v_is : v ≡ get_or s.visible.counts p v = get_or-any s.visible.counts p 0 v (omega (arith, many.1, at.block)) in
    rw c.lower.ensures.counts (record {
      blocks = (PoolInvariant-hide s.pool.items s.order.items s.visible.counts s.home.items s.deleted.items p c.spot_of-spot.result.offset c.args.number v c.self.invariant.blocks at within down v_is).1;
      many = c.self.invariant.many;
      indexed = c.self.invariant.indexed;
      measured = c.self.invariant.measured;
    })
