use Rattle.tp_event.proofs.Common.{Option, sym, subst, Call, MayHappen, EventStep, IsWould, world_of, during_of, event_reply_of}
use Rattle.tp_headline.specs.Event as events
use Rattle.tp_event.proofs.state.State.crash.Goals as goal

pub returns-in-None : goal.returns-in-None
returns-in-None c =
    subst (λ (d : Option Call). EventStep (world_of c.args.self.now) (events.Crash c.args.n (during_of d) c.args.kept c.args.actor) (event_reply_of c.crash_between.result) (world_of c.crash_between.new.self)) (sym c.in-None.is) c.crash_between.ensures

pub returns-in-Some : goal.returns-in-Some
returns-in-Some c =
    subst (λ (d : Option Call). EventStep (world_of c.args.self.now) (events.Crash c.args.n (during_of d) c.args.kept c.args.actor) (event_reply_of c.crash_during.result) (world_of c.crash_during.new.self)) (sym c.in-Some.is) c.crash_during.ensures

pub crash_between-requires-clause-may : goal.crash_between-requires-clause-may
crash_between-requires-clause-may c = subst (λ (d : Option Call). MayHappen (world_of c.args.self.now) (events.Crash c.args.n (during_of d) c.args.kept c.args.actor)) c.in-None.is c.requires.may

pub crash_during-requires-clause-may : goal.crash_during-requires-clause-may
crash_during-requires-clause-may c = subst (λ (d : Option Call). MayHappen (world_of c.args.self.now) (events.Crash c.args.n (during_of d) c.args.kept c.args.actor)) c.in-Some.is c.requires.may

pub crash_during-requires-clause-change : goal.crash_during-requires-clause-change
crash_during-requires-clause-change c =
    subst (λ (d : Option Call). IsWould (world_of c.args.self.now) (events.Crash c.args.n (during_of d) c.args.kept c.args.actor) c.args.change) c.in-Some.is c.requires.change
