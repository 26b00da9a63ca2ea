use Rattle.std.proofs.Common.{◌≡◌, ◌∙◌, length, sym}
use Rattle.std.proofs.lemmas.Bool.{eqb-true}
use Rattle.std.proofs.lemmas.List.{nil_from_length}
use Rattle.tp_program.proofs.rescuing.document_under.Goals as goal

-- with no change, it is a new one
pub returns-then-is_empty-clause-applied : goal.returns-then-is_empty-clause-applied
returns-then-is_empty-clause-applied c =
    let empty : length c.changes.result.now ≡ 0 = eqb-true (length c.changes.result.now) 0 (sym c.is_empty.ensures ∙ c.if-is_empty.true) in
    c.new.ensures.applied ∙ sym (nil_from_length c.changes.result.now empty) ∙ c.changes.ensures.changes
