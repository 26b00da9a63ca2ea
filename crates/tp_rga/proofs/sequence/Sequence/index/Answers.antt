use Rattle.std.proofs.Common.{◌≡◌, ◌+◌, ◌-◌, Some, sym, ap, ◌∙◌, arith, drop}
use Rattle.std.specs.Option.{option_map}
use Rattle.tp_rga.specs.Shown.{index_in}
use Rattle.tp_rga.proofs.Walking.{seen_within}
use Rattle.tp_rga.proofs.Indexing.{index_here, index_later, index_end}
use Rattle.tp_rga.proofs.sequence.Sequence.index.Goals as goal

pub returns-then-is : goal.returns-then-is
returns-then-is g c =
    let s = g.Self.Sequence in
    let k = c.loop-element.walk.index in
    let back : c.next_element.new.walk.index - 1 ≡ k = omega (arith, c.in-Some.ensures.next) in
    ap Some back
    ∙ index_here (s.placed c.args.self.now) k (s.removals c.args.self.now) c.in-Some.element c.args.id.now c.in-Some.ensures.seen (sym c.is.ensures ∙ c.if-is.true) c.loop-element.invariant.left

pub loop-element-smaller : goal.loop-element-smaller
loop-element-smaller g c =
    let s = g.Self.Sequence in
    let lt = seen_within (s.removals c.args.self.now) (s.placed c.args.self.now) c.loop-element.walk.index c.in-Some.element c.in-Some.ensures.seen in
    omega (arith, c.in-Some.ensures.next)

pub loop-element-preserved : goal.loop-element-preserved
loop-element-preserved g c =
    let s = g.Self.Sequence in
    let L = s.placed c.args.self.now in
    let id = c.args.id.now in
    let k = c.loop-element.walk.index in
    record {
      noted = c.in-Some.ensures.spot;
      left = ap (λ i. option_map (λ n. i + n) (index_in (drop i L) id)) c.in-Some.ensures.next
          ∙ index_later L k (s.removals c.args.self.now) c.in-Some.element id c.in-Some.ensures.seen (sym c.is.ensures ∙ c.if-is.false) c.loop-element.invariant.left;
    }

pub returns : goal.returns
returns g c =
    let s = g.Self.Sequence in
    index_end (s.placed c.args.self.now) c.loop-element.walk.index (s.removals c.args.self.now) c.args.id.now (sym c.in_default.is ∙ c.next_element.ensures.seen) c.loop-element.invariant.left
