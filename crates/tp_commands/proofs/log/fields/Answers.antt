use Rattle.std.proofs.Common.{◌∙◌, ap}
use Rattle.hex.specs.Hex.{encode_lower}
use Rattle.tp_commands.proofs.LogLines.{given, joined}
use Rattle.tp_commands.proofs.log.fields.Goals as goal

pub returns-clause-ok : goal.returns-clause-ok
returns-clause-ok c =
    joined _ _ _ _ _ _ _ _ _ _ _ _ _ c.in_ok-format.ensures.ok
    (given _ _ _ c.in_ok-hash.ensures.ok c.to_text.ensures.text ∙ ap (λ h. encode_lower h.0) c.hash.ensures.hash)
    (given _ _ _ c.in_ok-actor.ensures.ok c.to_text-2.ensures.text ∙ ap (λ a. encode_lower a.0) c.actor.ensures)
    c.seq-seq.ensures c.time-time.ensures c.inserts_in-inserted.ensures c.deletes_in-deleted.ensures
