use Rattle.std.proofs.Common.{◌≡◌, true, sym, ◌∙◌, subst}
use Rattle.tp_list.specs.Members.{In}
use Rattle.tp_list.proofs.Members.{In-get_or}
use Rattle.tp_opid.specs.Same.{same_hash}
use Rattle.tp_opid.proofs.Orders.{same_hash-same}
use Rattle.tp_layout.specs.declared.parts.ChangeParts.{ChangeParts}
use Rattle.tp_history.proofs.NamedLaws.{In-has}
use Rattle.tp_document.proofs.merging.is_at.Goals as goal

pub returns-then-place-changes : goal.returns-then-place-changes
returns-then-place-changes c = λ t.
    let C = c.args.changes.now in
    let x = c.index-changes-place.result in
    let same : same_hash c.hash.result c.args.hash.now ≡ true = sym c.is.ensures ∙ t in
    In-has C x c.args.hash.now
    (subst (λ (y : ChangeParts). In y C) (sym c.index-changes-place.is) (In-get_or C c.args.place x c.if-place-changes.true))
    (sym c.hash.ensures.hash ∙ same_hash-same c.hash.result c.args.hash.now same)
