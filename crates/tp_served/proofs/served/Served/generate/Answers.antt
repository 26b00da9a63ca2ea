use Rattle.tp_served.proofs.Common.{ne_eqb, ◌∙◌, sym, subst, reply_of, Generate, Reply, CallTakesTurn}
use Rattle.tp_served.proofs.served.Served.generate.Goals as goal

pub call-reply-requires-clause-link : goal.call-reply-requires-clause-link
call-reply-requires-clause-link g c = λ m other. ne_eqb c.number.result m (λ e. other (sym e ∙ c.number.ensures))

pub into_generated-requires : goal.into_generated-requires
into_generated-requires g c = (c.number.result, (c.call-reply.new.seat.state.before, c.call-reply.new.seat.state.after, c.call-reply.ensures.shows.step))

pub returns-clause-shows : goal.returns-clause-shows
returns-clause-shows g c = subst (λ (r : Reply). CallTakesTurn c.args.seat.now.state (Generate c.args.seat.now.state.number) r c.call-reply.new.seat.state) (sym c.into_generated.ensures) (subst (λ n. CallTakesTurn c.args.seat.now.state (Generate n) (reply_of c.call-reply.result) c.call-reply.new.seat.state) c.number.ensures c.call-reply.ensures.shows)
