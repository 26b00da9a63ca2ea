use Rattle.tp_served.specs.Seats.{took}
use Rattle.tp_served.proofs.TokenLaws.{ends_visit}
use Rattle.tp_served.proofs.served.Served.visit_on.Goals as goal

pub give-requires-clause-turn : goal.give-requires-clause-turn
give-requires-clause-turn g c =
    let t = c.requires.turn.0 in
    (took t, c.args.turn.peer, c.requires.turn.1.out, g.met.V.Visitor.serves c.args.visitor.now c.args.turn.peer c.visit-answer.new.peer c.visit-answer.ensures t.number)

pub returns-clause-ends : goal.returns-clause-ends
returns-clause-ends g c = λ t is. ends_visit t c.args.turn.token.me c.args.turn.peer c.visit-answer.new.peer _ c.give.result.views is c.visit-answer.ensures c.give.ensures.given
