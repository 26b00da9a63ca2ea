use Rattle.tp_world.proofs.Common.{subst, arith, WorldInvariant, World, carried_follows, carried_headline, carried_moment}
use Rattle.tp_world.proofs.Runs.{goes_none, goes_push, goes_whole}
use Rattle.tp_world.proofs.Steps.{run_carried}
use Rattle.tp_world.proofs.world.World.run.Goals as goal

pub returns-in-Err-clause-headline : goal.returns-in-Err-clause-headline
returns-in-Err-clause-headline c = carried_headline c.args.self.now (subst (λ (w : World). WorldInvariant w) c.self.view_is c.self.invariant)

pub returns-in-Err-clause-follows : goal.returns-in-Err-clause-follows
returns-in-Err-clause-follows c = carried_follows c.args.self.now (subst (λ (w : World). WorldInvariant w) c.self.view_is c.self.invariant)

pub loop-event-init : goal.loop-event-init
loop-event-init c = record {
  goes = goes_none c.args.self.now c.in-Ok.replies.items c.in-Ok.ensures.items;
  count = c.in-Ok.ensures.len;
  room = omega (arith, c.in-Ok.ensures.capacity, c.len.ensures, c.as_slice-all.ensures.len);
}

pub push_reserved-requires : goal.push_reserved-requires
push_reserved-requires c = omega (arith, c.loop-event.invariant.count, c.loop-event.invariant.room, c.loop-event-test.true)

pub loop-event-preserved : goal.loop-event-preserved
loop-event-preserved c = record {
  goes = goes_push c.args.self.now c.loop-event.self c.step.new.self c.as_slice-all.result.now c.loop-event.event-index _ c.loop-event.replies.items c.push_reserved.new.self.items c.step.result
      c.loop-event-test.true c.push_reserved.ensures.items c.loop-event.invariant.goes c.step.ensures.next;
  count = omega (arith, c.loop-event.invariant.count, c.push_reserved.ensures.len);
  room = omega (arith, c.loop-event.invariant.room, c.push_reserved.ensures.capacity);
}

pub returns-clause-ok : goal.returns-clause-ok
returns-clause-ok c =
    goes_whole c.args.self.now c.loop-event.self c.as_slice-all.result.now c.args.events.items c.loop-event.event-index c.loop-event.replies.items c.loop-event-test.false c.as_slice-all.ensures.value
    c.loop-event.invariant.goes

pub returns-clause-moments : goal.returns-clause-moments
returns-clause-moments c = λ k.
    carried_moment c.args.self.now _ _ c.loop-event.self k (subst (λ (w : World). WorldInvariant w) c.self.view_is c.self.invariant)
    (goes_whole c.args.self.now c.loop-event.self c.as_slice-all.result.now c.args.events.items c.loop-event.event-index c.loop-event.replies.items c.loop-event-test.false c.as_slice-all.ensures.value
    c.loop-event.invariant.goes)

pub returns-clause-headline : goal.returns-clause-headline
returns-clause-headline c =
    carried_headline c.loop-event.self
    (run_carried c.args.self.now _ _ c.loop-event.self (subst (λ (w : World). WorldInvariant w) c.self.view_is c.self.invariant) c.loop-event.invariant.goes)

pub returns-clause-follows : goal.returns-clause-follows
returns-clause-follows c =
    carried_follows c.loop-event.self
    (run_carried c.args.self.now _ _ c.loop-event.self (subst (λ (w : World). WorldInvariant w) c.self.view_is c.self.invariant) c.loop-event.invariant.goes)
