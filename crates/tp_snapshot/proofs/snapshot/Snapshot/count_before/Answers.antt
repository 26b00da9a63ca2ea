use Rattle.tp_snapshot.proofs.Common.{◌≡◌, ◌+◌, ◌∙◌, sym, ap, take, length, arith, shown_by}
use Rattle.tp_snapshot.proofs.SnapshotLaws.{length_by-shown, hidden_by}
use Rattle.tp_snapshot.proofs.snapshot.Snapshot.count_before.Goals as goal

pub elements-preserved-then-shows : goal.elements-preserved-then-shows
elements-preserved-then-shows g c =
    let s = g.S.Sequence in
    let R = s.removals c.args.sequence.now in
    let L = s.placed c.args.sequence.now in
    let K = c.args.self.now.clock in
    record {
      noted = c.in-Some.ensures.spot;
      author = c.shows.ensures.trail;
      to = omega (arith, c.in-Some.ensures.next, c.elements-test.true);
      few = omega (arith, c.in-Some.ensures.next, c.elements.invariant.few);
      counted = ap (λ n. n + 1) c.elements.invariant.counted
          ∙ sym (length_by-shown K R c.args.self.now.targets L c.elements.walk.index c.in-Some.element c.requires c.in-Some.ensures.seen (sym c.shows.ensures.shown ∙ c.if-shows.true))
          ∙ ap (λ n. length (shown_by K R (take n L))) (sym c.in-Some.ensures.next);
    }

pub elements-preserved : goal.elements-preserved
elements-preserved g c =
    let s = g.S.Sequence in
    let R = s.removals c.args.sequence.now in
    let L = s.placed c.args.sequence.now in
    let K = c.args.self.now.clock in
    record {
      noted = c.in-Some.ensures.spot;
      author = c.shows.ensures.trail;
      to = omega (arith, c.in-Some.ensures.next, c.elements-test.true);
      few = omega (arith, c.in-Some.ensures.next, c.elements.invariant.few);
      counted = c.elements.invariant.counted
          ∙ sym (ap length (hidden_by K R c.args.self.now.targets L c.elements.walk.index c.in-Some.element c.requires c.in-Some.ensures.seen (sym c.shows.ensures.shown ∙ c.if-shows.false)))
          ∙ ap (λ n. length (shown_by K R (take n L))) (sym c.in-Some.ensures.next);
    }

pub returns : goal.returns
returns g c =
    let s = g.S.Sequence in
    let end : c.elements.walk.index ≡ c.args.end = omega (arith, c.elements.invariant.to, c.elements-test.false) in
    c.elements.invariant.counted
    ∙ ap (λ n. length (shown_by c.args.self.now.clock (s.removals c.args.sequence.now) (take n (s.placed c.args.sequence.now)))) end
