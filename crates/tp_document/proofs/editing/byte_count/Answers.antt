use Rattle.tp_document.proofs.Common.{length, sym, ap, encodes-chars, scalars-chars}
use Rattle.tp_document.proofs.editing.byte_count.Goals as goal

pub returns-clause-count : goal.returns-clause-count
returns-clause-count c = ap length (sym (encodes-chars c.args.text.now c.utf8.text))

pub returns-clause-scalars : goal.returns-clause-scalars
returns-clause-scalars c = scalars-chars c.args.text.now c.utf8.text
