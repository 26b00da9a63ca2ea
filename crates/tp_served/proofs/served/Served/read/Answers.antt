use Rattle.tp_served.proofs.Common.{refl, inl, sym, subst, Read, Reply, CallTakesTurn}
use Rattle.tp_served.proofs.served.Served.read.Goals as goal

pub call-reply-requires-clause-link : goal.call-reply-requires-clause-link
call-reply-requires-clause-link g c = λ m other. refl

pub into_text-requires : goal.into_text-requires
into_text-requires g c = inl (c.call-reply.new.seat.state.before, c.call-reply.new.seat.state.after, c.call-reply.ensures.shows.step)

pub returns-clause-shows : goal.returns-clause-shows
returns-clause-shows g c = subst (λ (r : Reply). CallTakesTurn c.args.seat.now.state Read r c.call-reply.new.seat.state) (sym c.into_text.ensures) c.call-reply.ensures.shows
