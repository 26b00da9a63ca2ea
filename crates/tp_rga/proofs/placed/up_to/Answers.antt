use Rattle.std.proofs.Common.{subst}
use Rattle.tp_list.proofs.Members.{All-member}
use Rattle.tp_opid.specs.Tree.{HasReference}
use Rattle.tp_rga.proofs.Lookups.{IsThere-not_new, EndsAt-found}
use Rattle.tp_rga.proofs.placed.up_to.Goals as goal

pub unreachable-requires : goal.unreachable-requires
unreachable-requires c =
    IsThere-not_new c.args.elements.now c.in-After.reference (subst (HasReference c.args.elements.now) c.in-After.is c.requires) (All-member _ _ c.in-None.ensures.none)

pub returns-in-Some-clause-ends : goal.returns-in-Some-clause-ends
returns-in-Some-clause-ends c = rw c.in-After.is (EndsAt-found _ _ _ c.in-Some.ensures.found.0 c.in-Some.ensures.found.1)
