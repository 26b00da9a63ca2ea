use Rattle.std.proofs.Common.{sym, ap, ◌∙◌}
use Rattle.std.proofs.lemmas.Str.{chars-nil}
use Rattle.tp_layout.specs.Kept.{message_of}
use Rattle.tp_layout.proofs.body.Kept.message.Goals as goal

pub returns-in-Small-clause-chars : goal.returns-in-Small-clause-chars
returns-in-Small-clause-chars c = chars-nil ∙ ap message_of (sym c.in-Small.is)
