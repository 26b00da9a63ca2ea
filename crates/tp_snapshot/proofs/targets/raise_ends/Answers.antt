use Rattle.tp_snapshot.proofs.Common.{◌≡◌, ◌<◌, ◌-◌, ◌+◌, length, get_or, ◌∙◌, subst, arith, StartsBefore}
use Rattle.std.proofs.lemmas.List.{length-set}
use Rattle.tp_snapshot.proofs.TargetLaws.{starts_still, order_more, covers_same}
use Rattle.tp_snapshot.proofs.targets.raise_ends.Goals as goal

pub with_raised_end-requires : goal.with_raised_end-requires
with_raised_end-requires c =
    let l = c.loop-i.stretches in
    let i = c.loop-i.i in
    let here : i - 1 + 1 ≡ i = omega (arith, c.loop-i.auto.i) in
    subst (λ n. StartsBefore (get_or l (i - 1) _) (get_or l n _)) here
    (c.loop-i.invariant.starts (i - 1) _ (omega (arith, here, c.loop-i-test.true, c.loop-i.invariant.len)))

pub loop-i-preserved : goal.loop-i-preserved
loop-i-preserved c =
    let l = c.loop-i.stretches in
    let i = c.loop-i.i in
    let t = c.with_raised_end.result in
    let within : i < length l = omega (arith, c.loop-i-test.true, c.loop-i.invariant.len) in
    record {
      len = length-set l i t ∙ c.loop-i.invariant.len;
      starts = starts_still l i t _ within c.with_raised_end.ensures.start c.loop-i.invariant.starts;
      order = order_more l i t _ c.loop-i.auto.i within c.with_raised_end.ensures.order c.loop-i.invariant.order;
      covers = λ x. covers_same l i _ t x c.loop-i.auto.i within (c.with_raised_end.ensures.covers x) ∙ c.loop-i.invariant.covers x;
    }
