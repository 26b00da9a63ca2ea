use Rattle.std.proofs.Common.{◌∙◌, ap, take}
use Rattle.std.proofs.lemmas.Result.{IfOk-weaker}
use Rattle.hex.specs.Hex.{encode_lower}
use Rattle.tp_commands.proofs.PrettyLaws.{pretty_joined}
use Rattle.tp_commands.proofs.pretty.pretty_fields.Goals as goal

pub returns : goal.returns
returns c =
    IfOk-weaker c.format.result _ _
    (λ l e. pretty_joined _ _ _ _ _ _ _ _ _ _ e (c.in_ok-hash.ensures ∙ ap (λ h. encode_lower (take 4 h.0)) c.hash.ensures.hash)
    (c.in_ok-actor.ensures ∙ ap (λ a. encode_lower (take 4 a.0)) c.actor.ensures) c.inserts_in-inserted.ensures c.deletes_in-deleted.ensures) c.format.ensures.ok
