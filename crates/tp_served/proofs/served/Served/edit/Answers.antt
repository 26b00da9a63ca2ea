use Rattle.tp_served.proofs.Common.{refl, sym, subst, chars, Edit, Reply, CallTakesTurn}
use Rattle.tp_served.proofs.served.Served.edit.Goals as goal

pub call-reply-requires-clause-link : goal.call-reply-requires-clause-link
call-reply-requires-clause-link g c = λ m other. refl

pub into_made-requires : goal.into_made-requires
into_made-requires g c = (c.args.splices.now, c.args.time, chars c.args.message.now, (c.call-reply.new.seat.state.before, c.call-reply.new.seat.state.after, c.call-reply.ensures.shows.step))

pub returns-clause-shows : goal.returns-clause-shows
returns-clause-shows g c = subst (λ (r : Reply). CallTakesTurn c.args.seat.now.state (Edit c.args.splices.now c.args.time (chars c.args.message.now)) r c.call-reply.new.seat.state) (sym c.into_made.ensures) c.call-reply.ensures.shows
