use Rattle.tp_snapshot.proofs.Common.{◌++◌, ◌∙◌, sym, ap, take, arith, encode_utf8, encode_utf8_all, chars_of, seen_within}
use Rattle.tp_snapshot.proofs.SnapshotLaws.{bytes_by, bytes_by-shown, hidden_by, shown_all}
use Rattle.tp_snapshot.proofs.snapshot.Snapshot.text.Goals as goal

pub loop-element-preserved-in-Continue-1 : goal.loop-element-preserved-in-Continue-1
loop-element-preserved-in-Continue-1 g c =
    let s = g.S.Sequence in
    let R = s.removals c.args.sequence.now in
    let L = s.placed c.args.sequence.now in
    let K = c.args.self.now.clock in
    let T = c.args.self.now.targets in
    let k = c.loop-element.walk.index in
    record {
      noted = c.in-Some.ensures.spot;
      author = c.shows.ensures.trail;
      read = c.in_ok-push.ensures.bytes ∙ ap (λ bytes. bytes ++ encode_utf8 c.in-Some.element.ch) c.loop-element.invariant.read
          ∙ sym (bytes_by-shown K R T L k c.in-Some.element c.requires c.in-Some.ensures.seen (sym c.shows.ensures.shown ∙ c.if-shows.true))
          ∙ ap (λ n. bytes_by K R (take n L)) (sym c.in-Some.ensures.next);
    }

pub loop-element-smaller : goal.loop-element-smaller
loop-element-smaller g c =
    let s = g.S.Sequence in
    let lt = seen_within (s.removals c.args.sequence.now) (s.placed c.args.sequence.now) c.loop-element.walk.index c.in-Some.element c.in-Some.ensures.seen in
    omega (arith, c.in-Some.ensures.next)

pub loop-element-preserved : goal.loop-element-preserved
loop-element-preserved g c =
    let s = g.S.Sequence in
    let R = s.removals c.args.sequence.now in
    let L = s.placed c.args.sequence.now in
    let K = c.args.self.now.clock in
    let T = c.args.self.now.targets in
    let k = c.loop-element.walk.index in
    record {
      noted = c.in-Some.ensures.spot;
      author = c.shows.ensures.trail;
      read = c.loop-element.invariant.read
          ∙ sym (ap (λ l. encode_utf8_all (chars_of l)) (hidden_by K R T L k c.in-Some.element c.requires c.in-Some.ensures.seen (sym c.shows.ensures.shown ∙ c.if-shows.false)))
          ∙ ap (λ n. bytes_by K R (take n L)) (sym c.in-Some.ensures.next);
    }

pub returns : goal.returns
returns g c =
    let s = g.S.Sequence in
    let R = s.removals c.args.sequence.now in
    let L = s.placed c.args.sequence.now in
    let K = c.args.self.now.clock in
    c.loop-element.invariant.read
    ∙ ap (λ l. encode_utf8_all (chars_of l)) (shown_all K R L c.loop-element.walk.index (sym c.in_default.is ∙ c.next_element.ensures.seen))
