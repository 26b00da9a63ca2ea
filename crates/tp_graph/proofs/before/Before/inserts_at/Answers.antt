use Rattle.tp_graph.proofs.Common.{sym}
use Rattle.tp_graph.proofs.InsertLaws.{covers-low}
use Rattle.tp_graph.proofs.BeforeLaws.{marks-past}
use Rattle.tp_graph.proofs.before.Before.inserts_at.Goals as goal

pub returns-then-counter-self : goal.returns-then-counter-self
returns-then-counter-self c = λ rs h. sym (covers-low c.args.self.now.first rs c.args.counter c.if-counter-self.true)

pub returns-then-number-self : goal.returns-then-number-self
returns-then-number-self c = λ rs h.
    marks-past c.args.self.now.deletes.now c.args.self.now.first c.args.self.now.count rs c.args.counter c.if-counter-self.false c.if-number-self.true h
