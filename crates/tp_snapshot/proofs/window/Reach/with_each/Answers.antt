use Rattle.tp_snapshot.proofs.Common.{◌≡◌, ◌∙◌, ◌<◌, [], length, get_or, sym, ap, subst}
use Rattle.tp_snapshot.proofs.WindowLaws.{outside_more}
use Rattle.tp_snapshot.proofs.window.Reach.with_each.Goals as goal

pub changes-preserved : goal.changes-preserved
changes-preserved g c =
    let L = g.S.Sequence.placed c.args.sequence.now in
    let C = c.args.graph.now.applied in
    let n = c.changes.place in
    let change = c.index-changes-place.result in
    let after = c.with_named-reach.ensures in
    let same = c.changes-changes.ensures.changes in
    let within : n < length C = subst (λ l. n < length l) same c.changes-test.true in
    let is : get_or C n change ≡ change = sym (c.index-changes-place.is ∙ ap (λ l. get_or l n change) same) in
    record {
      reach = after.reach;
      keeps = λ k i. after.keeps k (c.changes.invariant.keeps k i);
      has = λ H o. outside_more c.changes.reach c.with_named-reach.result L C H n c.next_outside-place-in-changes.result change (c.changes.invariant.has H o) after.keeps within is after.has (c.next_outside-place-in-changes.ensures H [] o);
    }
