use Rattle.tp_opid.specs.Insert.{Insert}
use Rattle.tp_opid.proofs.Trees.{IsThere-member}
use Rattle.tp_rga.proofs.ByChains.{read_as, read_member, part_members, put_sorted, same_more_there, same_more_put, new_of, there_of}
use Rattle.tp_rga.proofs.by_chains.in_order.Goals.{then-not-contains+in_ok-at+in_ok-insert, else-not-contains}
use Rattle.tp_rga.proofs.by_chains.in_order.Goals as goal

pub index_in-requires-clause-there : goal.index_in-requires-clause-there
index_in-requires-clause-there c =
    let S = c.args.inserts.now in
    let x : Insert = record { id = c.e.inside.id; after = c.e.inside.after; ch = c.e.inside.ch } in
    let at = read_as S c.loop-i.i x c.index-inserts-i.result c.e.view_is c.index-inserts-i.is in
    IsThere-member S x (read_member S S (λ w i. i) c.loop-i.i x c.loop-i-test.true at)

pub index_in-requires-clause-part : goal.index_in-requires-clause-part
index_in-requires-clause-part c = rw c.deref-then-not-contains.ensures.value (part_members c.args.inserts.now c.loop-i.i c.loop-i.list.items c.loop-i.invariant.same)

pub loop-i-preserved : goal.loop-i-preserved
loop-i-preserved c =
    let S = c.args.inserts.now in
    let L = c.loop-i.list.items in
    let x : Insert = record { id = c.e.inside.id; after = c.e.inside.after; ch = c.e.inside.ch } in
    let at = read_as S c.loop-i.i x c.index-inserts-i.result c.e.view_is c.index-inserts-i.is in
    let x_in = read_member S S (λ w i. i) c.loop-i.i x c.loop-i-test.true at in
    let found = rw c.deref.ensures.value at c.contains.ensures in
    let part = part_members S c.loop-i.i L c.loop-i.invariant.same in
    elim c.if-not-contains.branch [
      | then-not-contains+in_ok-at+in_ok-insert w ↦
          let new = new_of L x.id c.contains.result found w.if-not-contains.true in
          let passed = rw w.deref-then-not-contains.ensures.value at w.in_ok-at.ensures.passed in
          let stops = rw w.deref-then-not-contains.ensures.value at w.in_ok-at.ensures.stops in
          rw (w.list-is, w.in_ok-insert.ensures.items) (record {
            sorted = put_sorted S c.requires L part c.loop-i.invariant.sorted x x_in new w.in_ok-at.at passed stops;
            same = same_more_put S c.loop-i.i L w.in_ok-at.at x c.loop-i-test.true at c.loop-i.invariant.same;
          })
      | else-not-contains w ↦
          let there = there_of L x.id c.contains.result found w.if-not-contains.false in
          rw w.list-is (record {
            sorted = c.loop-i.invariant.sorted;
            same = same_more_there S c.requires c.loop-i.i L x c.loop-i-test.true at c.loop-i.invariant.same there;
          })
    ]
