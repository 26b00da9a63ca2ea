use Rattle.tp_served.proofs.TokenLaws.{ends_turn, may_give}
use Rattle.tp_served.proofs.served.Served.call_on.Goals as goal

pub give-requires-clause-turn : goal.give-requires-clause-turn
give-requires-clause-turn g c = may_give c.args.turn.token.me c.args.turn.peer c.ask-reply.new.peer _ _ c.requires.turn c.ask-reply.ensures.step

pub returns-clause-ends : goal.returns-clause-ends
returns-clause-ends g c = λ t is. ends_turn t c.args.turn.token.me c.args.turn.peer c.ask-reply.new.peer _ _ c.give.result.views is c.ask-reply.ensures.step c.give.ensures.given
