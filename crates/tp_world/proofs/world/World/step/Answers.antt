use Rattle.tp_world.proofs.Common.{subst, Next, World, carried_acts, carried_follows, carried_headline, world_of, event_of, event_reply_of}
use Rattle.tp_headline.specs.Refining.{IsOneAct}
use Rattle.tp_world.proofs.Steps.{step_carried}
use Rattle.tp_world.proofs.world.World.step.Goals as goal

pub invariant_of-self : goal.invariant_of-self
invariant_of-self c = step_carried (world_of c.self.inside.state) (event_of c.args.event) (event_reply_of c.step.result) (world_of c.step.new.state) c.self.invariant c.step.ensures

pub returns-clause-next : goal.returns-clause-next
returns-clause-next c = subst (λ (w : World). Next w (event_of c.args.event) (event_reply_of c.step.result) (world_of c.step.new.state)) c.self.view_is c.step.ensures

pub returns-clause-act : goal.returns-clause-act
returns-clause-act c =
    subst (λ (w : World). IsOneAct w (event_of c.args.event) (event_reply_of c.step.result) (world_of c.step.new.state)) c.self.view_is
    (carried_acts (world_of c.self.inside.state) (event_of c.args.event) (event_reply_of c.step.result) (world_of c.step.new.state) c.self.invariant c.step.ensures)

pub returns-clause-headline : goal.returns-clause-headline
returns-clause-headline c =
    carried_headline (world_of c.step.new.state)
    (step_carried (world_of c.self.inside.state) (event_of c.args.event) (event_reply_of c.step.result) (world_of c.step.new.state) c.self.invariant c.step.ensures)

pub returns-clause-follows : goal.returns-clause-follows
returns-clause-follows c =
    carried_follows (world_of c.step.new.state)
    (step_carried (world_of c.self.inside.state) (event_of c.args.event) (event_reply_of c.step.result) (world_of c.step.new.state) c.self.invariant c.step.ensures)
