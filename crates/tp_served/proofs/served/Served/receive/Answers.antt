use Rattle.tp_served.proofs.Common.{ne_eqb, ◌∙◌, sym, subst, reply_of, Receive, Reply, CallTakesTurn}
use Rattle.tp_served.proofs.served.Served.receive.Goals as goal

pub call-reply-requires-clause-link : goal.call-reply-requires-clause-link
call-reply-requires-clause-link g c = λ m other. ne_eqb c.number.result m (λ e. other (sym e ∙ c.number.ensures))

pub into_received-requires : goal.into_received-requires
into_received-requires g c = (c.number.result, c.args.bytes.now, (c.call-reply.new.seat.state.before, c.call-reply.new.seat.state.after, c.call-reply.ensures.shows.step))

pub returns-clause-shows : goal.returns-clause-shows
returns-clause-shows g c = subst (λ (r : Reply). CallTakesTurn c.args.seat.now.state (Receive c.args.seat.now.state.number c.args.bytes.now) r c.call-reply.new.seat.state) (sym c.into_received.ensures) (subst (λ n. CallTakesTurn c.args.seat.now.state (Receive n c.args.bytes.now) (reply_of c.call-reply.result) c.call-reply.new.seat.state) c.number.ensures c.call-reply.ensures.shows)
