use Rattle.tp_served.proofs.Common.{refl, inl, ◌∙◌, ap, sym, subst, Read, Tries, TryOutcome, Replied}
use Rattle.tp_served.proofs.served.Served.try_read.Goals as goal

pub try_call-requires-clause-link : goal.try_call-requires-clause-link
try_call-requires-clause-link g c = λ m other. refl

pub into_text-requires : goal.into_text-requires
into_text-requires g c = inl (c.try_call.new.seat.state.before, c.try_call.new.seat.state.after, c.in-Some.ensures.tries.0.step)

pub returns-in-Some-clause-tries : goal.returns-in-Some-clause-tries
returns-in-Some-clause-tries g c = subst (λ (a : TryOutcome). Tries c.args.seat.now.state Read a c.try_call.new.seat.state) (sym (c.of_peer.ensures _ ∙ ap Replied c.into_text.ensures)) c.in-Some.ensures.tries
