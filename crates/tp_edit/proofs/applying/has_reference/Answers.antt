use Rattle.std.proofs.Common.{◌∙◌}
use Rattle.tp_change.specs.Elements.{is_inserted}
use Rattle.tp_edit.proofs.Numbered.{is_inserted-test, and_last}
use Rattle.tp_edit.proofs.applying.has_reference.Goals as goal

pub returns-in-After : goal.returns-in-After
returns-in-After g c =
    let placed = g.S.Sequence.placed c.args.sequence.now in
    rw (c.in-Insert.is, c.in-After.is) (is_inserted-test placed c.in-After.id c.contains.result c.contains.ensures ∙ and_last (is_inserted placed c.in-After.id))

pub returns-in-Delete : goal.returns-in-Delete
returns-in-Delete g c =
    let placed = g.S.Sequence.placed c.args.sequence.now in
    rw c.in-Delete.is (is_inserted-test placed c.in-Delete.target c.contains-in-Delete.result c.contains-in-Delete.ensures ∙ and_last (is_inserted placed c.in-Delete.target))
