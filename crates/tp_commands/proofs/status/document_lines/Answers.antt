use Rattle.std.proofs.Common.{◌∙◌, ap, length}
use Rattle.hex.specs.Hex.{encode_lower}
use Rattle.tp_commands.proofs.StatusLaws.{document_joined}
use Rattle.tp_list.specs.Bytes.{line}
use Rattle.tp_commands.proofs.status.document_lines.Goals as goal

pub returns-clause-ok : goal.returns-clause-ok
returns-clause-ok c =
    document_joined _ _ _ _ _ _ _ _ c.in_ok-format.ensures.ok (c.in_ok-id.ensures.line ∙ ap (λ i. line (encode_lower i.0)) c.id.ensures)
    (ap length c.changes.ensures.changes) c.authors-authors.ensures
