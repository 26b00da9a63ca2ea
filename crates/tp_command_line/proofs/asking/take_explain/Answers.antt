use Rattle.std.proofs.Common.{◌∙◌, ap, rules, sym}
use Rattle.std.specs.Borrow.{Bor}
use Rattle.clap.specs.Words.{Text}
use Rattle.tp_command_line.specs.Asking.{is_explain}
use Rattle.tp_command_line.proofs.Places.{taken_out}
use Rattle.tp_command_line.proofs.asking.take_explain.Goals as goal

pub returns-then-eq-clause-rest : goal.returns-then-eq-clause-rest
returns-then-eq-clause-rest c =
    let is = ap (λ (t : Bor Text). is_explain t.now) (sym c.index.ensures) ∙ sym c.eq.ensures ∙ c.if-eq.true in
    taken_out c.args.words.now.items c.remove.new.self.items c.explain_at-at.result c.index.result.now (search rules) (search rules) is c.remove.ensures.items
