use Rattle.std.proofs.Common.{◌≡◌, ◌<◌, [], None, Some, sym, ◌∙◌, subst, length}
use Rattle.tp_list.specs.Members.{In}
use Rattle.tp_elements.proofs.Lists.{get_or-any}
use Rattle.tp_posindex.specs.Laid.{Layout}
use Rattle.tp_posindex.specs.Layout.{StandsAt, block_at}
use Rattle.tp_posindex.proofs.Laying.{home_there, position_found}
use Rattle.tp_posindex.proofs.Keeping.{home_indexed}
use Rattle.tp_posindex.proofs.blocks.Blocks.spot_of.Goals as goal

pub unreachable-requires : goal.unreachable-requires
unreachable-requires c =
    let s = c.self.inside in
    let within = subst (λ (v : Layout). c.args.number < length v.flags) (sym c.self.view_is) c.requires in
    let there = home_there s.pool.items s.order.items s.visible.counts s.home.items s.deleted.items c.args.number c.index.result.now c.self.invariant.blocks within c.index.ensures in
    let held : c.numbers.result.now ≡ block_at s.pool.items c.index.result.now = c.numbers.ensures.value ∙ c.index-2.ensures ∙ get_or-any s.pool.items c.index.result.now c.index-2.result.now [] there.1 in
    let none = sym c.index_of.ensures ∙ c.in-None.is in
    position_found c.numbers.result.now c.args.number None none (subst (In c.args.number) (sym held) there.2)

pub returns-clause-at : goal.returns-clause-at
returns-clause-at c =
    let s = c.self.inside in
    let within = subst (λ (v : Layout). c.args.number < length v.flags) (sym c.self.view_is) c.requires in
    let at = position_found c.index-2.result.now c.args.number (Some c.in-Some.offset) (rw c.numbers.ensures.value at (sym c.index_of.ensures ∙ c.in-Some.is)) in
    subst (λ (v : Layout). StandsAt v.blocks c.index-in-Some.result.now c.in-Some.offset c.args.number) c.self.view_is (home_indexed s.pool.items s.order.items s.index.items s.lens.counts s.visible.counts s.home.items s.deleted.items c.args.number c.index.result.now c.index-in-Some.result.now c.in-Some.offset c.index-2.result.now c.self.invariant within c.index.ensures c.index-in-Some.ensures c.index-2.ensures at)
