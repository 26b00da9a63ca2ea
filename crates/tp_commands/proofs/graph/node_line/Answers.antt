use Rattle.std.proofs.Common.{◌∙◌, ap}
use Rattle.tp_commands.specs.Graph.{border_of, is_head, label_of, node_name}
use Rattle.tp_commands.proofs.GraphLines.{node_joined}
use Rattle.tp_commands.proofs.graph.node_line.Goals as goal

pub returns-clause-ok : goal.returns-clause-ok
returns-clause-ok c =
    node_joined _ _ _ _ _ _ _ c.in_ok-format.ensures.ok
    (c.in_ok-name.ensures.ok ∙ ap node_name c.hash-hash.ensures.hash)
    (c.in_ok-label.ensures ∙ ap label_of (c.as_str.ensures.value ∙ c.in_ok-node_text.ensures.ok))
    (c.border-border.ensures ∙ ap border_of (c.is_head.ensures ∙ ap (is_head c.args.document.now.applied) c.hash-hash.ensures.hash))
