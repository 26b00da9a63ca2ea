use Rattle.tp_served.proofs.Common.{ne_eqb, ◌∙◌, ap, sym, subst, message_spelling, reply_of, Receive, Tries, TryOutcome, Replied}
use Rattle.tp_served.proofs.served.Served.try_receive_message.Goals as goal

pub try_call-requires-clause-link : goal.try_call-requires-clause-link
try_call-requires-clause-link g c = λ m other. ne_eqb c.number.result m (λ e. other (sym e ∙ c.number.ensures))

pub into_received-requires : goal.into_received-requires
into_received-requires g c = (c.number.result, message_spelling c.args.message, (c.try_call.new.seat.state.before, c.try_call.new.seat.state.after, c.in-Some.ensures.tries.0.step))

pub returns-in-Some-clause-tries : goal.returns-in-Some-clause-tries
returns-in-Some-clause-tries g c = subst (λ (a : TryOutcome). Tries c.args.seat.now.state (Receive c.args.seat.now.state.number (message_spelling c.args.message)) a c.try_call.new.seat.state) (sym (c.of_peer.ensures _ ∙ ap Replied c.into_received.ensures)) (subst (λ n. Tries c.args.seat.now.state (Receive n (message_spelling c.args.message)) (Replied (reply_of c.in-Some.reply)) c.try_call.new.seat.state) c.number.ensures c.in-Some.ensures.tries)
