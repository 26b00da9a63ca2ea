use Rattle.tp_event.proofs.Common.{sym, subst, MayHappen, EventStep, IsWould, world_of, event_of, event_reply_of}
use Rattle.tp_event.specs.declared.event.Event.{Event}
use Rattle.tp_event.proofs.state.State.happen.Goals as goal

pub fork-requires : goal.fork-requires
fork-requires c = subst (λ (x : Event). MayHappen (world_of c.args.self.now) (event_of x)) c.in-Fork.is c.requires.may

pub call-requires-clause-may : goal.call-requires-clause-may
call-requires-clause-may c = subst (λ (x : Event). MayHappen (world_of c.args.self.now) (event_of x)) c.in-Call.is c.requires.may

pub call-requires-clause-change : goal.call-requires-clause-change
call-requires-clause-change c = subst (λ (x : Event). IsWould (world_of c.args.self.now) (event_of x) c.args.change) c.in-Call.is c.requires.change

pub crash-requires-clause-may : goal.crash-requires-clause-may
crash-requires-clause-may c = subst (λ (x : Event). MayHappen (world_of c.args.self.now) (event_of x)) c.in-Crash.is c.requires.may

pub crash-requires-clause-change : goal.crash-requires-clause-change
crash-requires-clause-change c = subst (λ (x : Event). IsWould (world_of c.args.self.now) (event_of x) c.args.change) c.in-Crash.is c.requires.change

pub returns-in-Call : goal.returns-in-Call
returns-in-Call c = subst (λ (x : Event). EventStep (world_of c.args.self.now) (event_of x) (event_reply_of c.call.result) (world_of c.call.new.self)) (sym c.in-Call.is) c.call.ensures

pub returns-in-Crash : goal.returns-in-Crash
returns-in-Crash c = subst (λ (x : Event). EventStep (world_of c.args.self.now) (event_of x) (event_reply_of c.crash.result) (world_of c.crash.new.self)) (sym c.in-Crash.is) c.crash.ensures

pub fail-requires : goal.fail-requires
fail-requires c = subst (λ (x : Event). MayHappen (world_of c.args.self.now) (event_of x)) c.in-Fail.is c.requires.may

pub returns-in-Fail : goal.returns-in-Fail
returns-in-Fail c = subst (λ (x : Event). EventStep (world_of c.args.self.now) (event_of x) (event_reply_of c.fail.result) (world_of c.fail.new.self)) (sym c.in-Fail.is) c.fail.ensures
