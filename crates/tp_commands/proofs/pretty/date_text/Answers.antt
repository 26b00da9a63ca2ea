use Rattle.std.proofs.Common.{arith, inl, inr}
use Rattle.std.proofs.lemmas.Result.{IfOk-weaker}
use Rattle.tp_commands.proofs.pretty.date_text.Goals as goal

pub returns-then-seconds-le-LAST_SECOND : goal.returns-then-seconds-le-LAST_SECOND
returns-then-seconds-le-LAST_SECOND c =
    IfOk-weaker c.moment_text.result _ _
    (λ t e. inr (inl (
      omega (arith, c.if-seconds-eq0.false),
      c.if-seconds-le-LAST_SECOND.true,
      (c.moment.result, c.moment.ensures, e),
    ))) c.moment_text.ensures
