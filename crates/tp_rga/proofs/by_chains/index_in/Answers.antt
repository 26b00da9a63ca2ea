use Rattle.std.proofs.lemmas.List.Elements.{AllWithin-more, at_read}
use Rattle.tp_opid.specs.Insert.{Insert}
use Rattle.tp_opid.proofs.Trees.{IsThere-member}
use Rattle.tp_rga.specs.Order.{Before}
use Rattle.tp_rga.proofs.ByChains.{read_as, read_member}
use Rattle.tp_rga.proofs.by_chains.index_in.Goals as goal

pub is_before-requires-clause-first : goal.is_before-requires-clause-first
is_before-requires-clause-first c =
    let S = c.args.inserts.now in
    let x : Insert = record { id = c.e.inside.id; after = c.e.inside.after; ch = c.e.inside.ch } in
    let at = read_as c.args.list.now c.loop-i.i x c.index-list-i.result c.e.view_is c.index-list-i.is in
    IsThere-member S x (read_member S c.args.list.now c.requires.part c.loop-i.i x c.loop-i-test.true at)

pub loop-i-preserved : goal.loop-i-preserved
loop-i-preserved c =
    let x : Insert = record { id = c.e.inside.id; after = c.e.inside.after; ch = c.e.inside.ch } in
    let at = read_as c.args.list.now c.loop-i.i x c.index-list-i.result c.e.view_is c.index-list-i.is in
    AllWithin-more (λ (w : Insert). Before c.args.inserts.now w.id c.args.x.now) c.args.list.now 0 c.loop-i.i c.loop-i.invariant (at_read c.args.list.now (λ (w : Insert). Before c.args.inserts.now w.id c.args.x.now) c.loop-i.i x c.loop-i-test.true at (c.in_ok-is_before.ensures.0 c.if-not-branch.false))
