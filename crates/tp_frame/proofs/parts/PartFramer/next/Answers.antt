use Rattle.std.proofs.Common.{ap, sym, ◌∙◌}
use Rattle.tp_frame.specs.PartState.{PartState}
use Rattle.tp_frame.proofs.PartLaws.{from_inside}
use Rattle.tp_frame.proofs.parts.PartFramer.next.Goals as goal

pub returns-in-Inside-clause-exact : goal.returns-in-Inside-clause-exact
returns-in-Inside-clause-exact c = λ led present.
    from_inside led c.args.self.now.stage c.in-Inside.left c.args.self.now.held c.go_on.result c.go_on.new.self
    (sym (ap (λ (s : PartState). s.stage) c.self.view_is) ∙ c.in-Inside.is) present c.go_on.ensures
