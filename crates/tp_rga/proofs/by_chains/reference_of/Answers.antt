use Rattle.std.proofs.Common.{sym, ◌∙◌, subst}
use Rattle.tp_opid.specs.Insert.{Insert}
use Rattle.tp_opid.specs.Tree.{Inserts}
use Rattle.tp_rga.proofs.Lookups.{IsFirst-position, IsThere-not_new}
use Rattle.tp_rga.proofs.ByChains.{Inserts-found}
use Rattle.tp_rga.proofs.by_chains.reference_of.Goals as goal

pub unreachable-requires : goal.unreachable-requires
unreachable-requires c = IsThere-not_new c.args.inserts.now c.args.id.now c.requires (IsFirst-position c.args.inserts.now c.args.id.now _ (sym c.index_of.ensures ∙ c.in-None.is))

pub returns : goal.returns
returns c =
    let found = IsFirst-position c.args.inserts.now c.args.id.now _ (sym c.index_of.ensures ∙ c.in-Some.is) in
    subst (λ (w : Insert). Inserts c.args.inserts.now c.args.id.now w.after) (sym c.e.view_is) (Inserts-found c.args.inserts.now c.args.id.now c.in-Some.i c.index-inserts-i.result found c.index-inserts-i.is)
