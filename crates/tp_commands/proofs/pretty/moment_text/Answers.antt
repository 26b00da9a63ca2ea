use Rattle.std.proofs.lemmas.Result.{IfOk-weaker}
use Rattle.tp_commands.proofs.PrettyLaws.{moment_joined}
use Rattle.tp_commands.proofs.pretty.moment_text.Goals as goal

pub returns : goal.returns
returns c = IfOk-weaker c.format.result _ _ (λ t e. moment_joined _ _ _ _ _ e c.in_ok-day.ensures c.in_ok-clock.ensures) c.format.ensures.ok
