use Rattle.std.proofs.Common.{◌∙◌}
use Rattle.std.specs.List.{list_any}
use Rattle.tp_opid.specs.Order.{hash_cmp}
use Rattle.tp_opid.specs.Same.{same_hash}
use Rattle.tp_program.proofs.RescueLaws.{either}
use Rattle.tp_program.proofs.rescuing.note_hash.Goals as goal

pub returns-in-Ok-clause-new : goal.returns-in-Ok-clause-new
unfolding same_hash hash_cmp
returns-in-Ok-clause-new c = c.in-Ok.ensures.added

pub returns-in-Ok-clause-noted : goal.returns-in-Ok-clause-noted
unfolding same_hash hash_cmp
returns-in-Ok-clause-noted c = λ h. c.in-Ok.ensures.updates.0 h ∙ either _ (list_any (same_hash h) c.args.named.now.keys)
