use Rattle.std.proofs.Common.{◌∙◌, ℕ, ap, subst}
use Rattle.std.proofs.lemmas.Result.{IfOk-weaker}
use Rattle.std.specs.String.{string_bytes}
use Rattle.tp_commands.specs.Pretty.{IsDateText, dated_line}
use Rattle.tp_commands.proofs.pretty.pretty_line.Goals as goal

pub returns : goal.returns
returns c =
    let date = string_bytes c.in_ok-date.date in
    IfOk-weaker c.dated_line.result _ _
    (λ l e. (
      date,
      subst (λ (n : ℕ). IsDateText n date) c.time.ensures c.in_ok-date.ensures,
      e ∙ ap (dated_line c.args.change.now) c.as_str.ensures.value,
    )) c.dated_line.ensures
