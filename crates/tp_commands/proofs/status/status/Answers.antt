use Rattle.std.proofs.Common.{◌∙◌, ap}
use Rattle.tp_commands.specs.Status.{status_heads}
use Rattle.tp_commands.proofs.StatusLaws.{status_joined}
use Rattle.tp_commands.proofs.status.status.Goals as goal

pub returns-clause-ok : goal.returns-clause-ok
returns-clause-ok c = (
  c.len.result,
  c.len.ensures,
  status_joined _ _ _ _ _ _ _ _ _ _ c.in_ok-format.ensures.ok c.in_ok-lines.ensures.ok (c.in_ok-heads.ensures.ok ∙ ap status_heads c.heads.ensures) c.in_ok-kept.ensures c.in_ok-lock.ensures,
)
