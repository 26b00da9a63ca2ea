use Rattle.tp_graph.proofs.Common.{◌∙◌}
use Rattle.tp_history.proofs.PlacesLaws.{end_at}
use Rattle.tp_graph.proofs.applied.Applied.inserts_at.Goals as goal

pub inserts_marked-requires-clause-end : goal.inserts_marked-requires-clause-end
inserts_marked-requires-clause-end c = c.end_at-end.ensures ∙ end_at c.ancestry-ancestry.result.now.changes c.args.place _ c.at-change.ensures

pub inserts_id-requires : goal.inserts_id-requires
inserts_id-requires c = c.end_at-end.ensures ∙ end_at c.ancestry-ancestry.result.now.changes c.args.place _ c.at-change.ensures
