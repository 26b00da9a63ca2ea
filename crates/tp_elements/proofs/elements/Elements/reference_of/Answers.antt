use Rattle.std.proofs.Common.{◌≡◌, true, None, sym, ap, ◌∙◌, subst}
use Rattle.tp_opid.specs.declared.op_id.Place.TheVariants.{After}
use Rattle.tp_opid.specs.Same.{id_eq}
use Rattle.tp_opid.specs.Tree.{HasReference}
use Rattle.tp_opid.proofs.Orders.{id_eq-same}
use Rattle.tp_rga.proofs.Lookups.{IsFirst-position, IsThere-not_new}
use Rattle.tp_elements.specs.Came.{element_at}
use Rattle.tp_elements.proofs.Linking.{number_is}
use Rattle.tp_elements.proofs.elements.Elements.reference_of.Goals as goal

pub unreachable-requires : goal.unreachable-requires
unreachable-requires c =
    let E = c.args.self.now.items in
    IsThere-not_new E c.in-After.id (subst (HasReference E) c.in-After.is c.requires) (IsFirst-position E c.in-After.id None (sym c.number_of.ensures ∙ c.in-None.is))

pub returns-in-Some-clause-place : goal.returns-in-Some-clause-place
returns-in-Some-clause-place c =
    let E = c.args.self.now.items in
    let k = c.in-Some.number in
    let named : id_eq (element_at E k).id c.in-After.id ≡ true = (number_is E c.in-After.id k (sym c.number_of.ensures ∙ c.in-Some.is)).1 in
    ap After (id_eq-same (element_at E k).id c.in-After.id named) ∙ sym c.in-After.is
