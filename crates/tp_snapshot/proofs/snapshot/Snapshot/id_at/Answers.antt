use Rattle.tp_snapshot.proofs.Common.{◌-◌, ◌∙◌, sym, ap, drop, arith, slice_get, shown_by, seen_within}
use Rattle.tp_snapshot.proofs.SnapshotLaws.{found_here, found_later, found_after, found_none}
use Rattle.tp_snapshot.proofs.snapshot.Snapshot.id_at.Goals as goal

pub returns-then-left-eq0 : goal.returns-then-left-eq0
returns-then-left-eq0 g c =
    let s = g.S.Sequence in
    let R = s.removals c.args.sequence.now in
    let L = s.placed c.args.sequence.now in
    let K = c.args.self.now.clock in
    let T = c.args.self.now.targets in
    let k = c.loop-element.walk.index in
    found_here K R T L k c.loop-element.left c.args.at c.in-Some.element c.requires c.in-Some.ensures.seen
    (sym c.shows.ensures.shown ∙ c.if-shows.true) c.if-left-eq0.true c.loop-element.invariant.left

pub loop-element-smaller-then-shows : goal.loop-element-smaller-then-shows
loop-element-smaller-then-shows g c =
    let s = g.S.Sequence in
    let lt = seen_within (s.removals c.args.sequence.now) (s.placed c.args.sequence.now) c.loop-element.walk.index c.in-Some.element c.in-Some.ensures.seen in
    omega (arith, c.in-Some.ensures.next)

pub loop-element-preserved-then-shows : goal.loop-element-preserved-then-shows
loop-element-preserved-then-shows g c =
    let s = g.S.Sequence in
    let R = s.removals c.args.sequence.now in
    let L = s.placed c.args.sequence.now in
    let K = c.args.self.now.clock in
    let T = c.args.self.now.targets in
    let k = c.loop-element.walk.index in
    let left = c.loop-element.left in
    record {
      noted = c.in-Some.ensures.spot;
      author = c.shows.ensures.trail;
      left = ap (λ n. slice_get (shown_by K R (drop n L)) (left - 1)) c.in-Some.ensures.next
          ∙ found_later K R T L k left c.in-Some.element c.requires c.in-Some.ensures.seen (sym c.shows.ensures.shown ∙ c.if-shows.true) c.if-left-eq0.false
          ∙ c.loop-element.invariant.left;
    }

pub loop-element-smaller : goal.loop-element-smaller
loop-element-smaller g c =
    let s = g.S.Sequence in
    let lt = seen_within (s.removals c.args.sequence.now) (s.placed c.args.sequence.now) c.loop-element.walk.index c.in-Some.element c.in-Some.ensures.seen in
    omega (arith, c.in-Some.ensures.next)

pub loop-element-preserved : goal.loop-element-preserved
loop-element-preserved g c =
    let s = g.S.Sequence in
    let R = s.removals c.args.sequence.now in
    let L = s.placed c.args.sequence.now in
    let K = c.args.self.now.clock in
    let T = c.args.self.now.targets in
    let k = c.loop-element.walk.index in
    let left = c.loop-element.left in
    record {
      noted = c.in-Some.ensures.spot;
      author = c.shows.ensures.trail;
      left = ap (λ n. slice_get (shown_by K R (drop n L)) left) c.in-Some.ensures.next
          ∙ found_after K R T L k left c.in-Some.element c.requires c.in-Some.ensures.seen (sym c.shows.ensures.shown ∙ c.if-shows.false)
          ∙ c.loop-element.invariant.left;
    }

pub returns : goal.returns
returns g c =
    let s = g.S.Sequence in
    found_none c.args.self.now.clock (s.removals c.args.sequence.now) (s.placed c.args.sequence.now) c.loop-element.walk.index c.loop-element.left c.args.at
    (sym c.in_default.is ∙ c.next_element.ensures.seen) c.loop-element.invariant.left
