use Rattle.tp_ancestry.proofs.Common.{◌∙◌, ap, nat_le, filter_same}
use Rattle.std.proofs.Common.{rules}
use Rattle.tp_ancestry.specs.VersionVectors as vectors
use Rattle.tp_ancestry.proofs.VectorLaws.{held-kept}
use Rattle.tp_ancestry.proofs.vector.take_out_passed.Goals as goal

pub returns-clause-held : goal.returns-clause-held
returns-clause-held c =
    λ i.
    ap (λ l. vectors.is_held c.args.ancestry.now.changes c.args.prefix l i)
    (filter_same _ (λ t. nat_le c.args.prefix t) _ (λ x b g k. search rules) _ _ c.retain.ensures.filtered)
    ∙ held-kept c.args.ancestry.now.changes c.args.latest.now.items c.args.prefix i
