use Rattle.tp_served.proofs.Common.{refl, ◌∙◌, ap, sym, subst, chars, Edit, Tries, TryOutcome, Replied}
use Rattle.tp_served.proofs.served.Served.try_edit.Goals as goal

pub try_call-requires-clause-link : goal.try_call-requires-clause-link
try_call-requires-clause-link g c = λ m other. refl

pub into_made-requires : goal.into_made-requires
into_made-requires g c = (c.args.splices.now, c.args.time, chars c.args.message.now, (c.try_call.new.seat.state.before, c.try_call.new.seat.state.after, c.in-Some.ensures.tries.0.step))

pub returns-in-Some-clause-tries : goal.returns-in-Some-clause-tries
returns-in-Some-clause-tries g c = subst (λ (a : TryOutcome). Tries c.args.seat.now.state (Edit c.args.splices.now c.args.time (chars c.args.message.now)) a c.try_call.new.seat.state) (sym (c.of_peer.ensures _ ∙ ap Replied c.into_made.ensures)) c.in-Some.ensures.tries
