use Rattle.std.proofs.Common.{◌∙◌}
use Rattle.tp_elements.proofs.Linking.{entry_read}
use Rattle.tp_elements.proofs.lookup.link_next.Goals as goal

pub returns-in-Ok-clause-sibling : goal.returns-in-Ok-clause-sibling
returns-in-Ok-clause-sibling c =
    let entry = entry_read c.in-Ok.entry c.args.id.now.actor c.requires.indexed c.deref.ensures.value c.in-Ok.ensures.found c.index.ensures in
    (entry.2, (c.requires.indexed.there c.index.result.now entry.0).1 ∙ entry.1)
