use Rattle.tp_ancestry.proofs.Common.{◌∙◌, sym, ap, PastSet}
use Rattle.tp_ancestry.specs.PastSets as of_set
use Rattle.tp_ancestry.proofs.VectorLaws.{held_at}
use Rattle.tp_ancestry.proofs.past_set.PastSet.holds.Goals as goal

pub returns-in-Within : goal.returns-in-Within
returns-in-Within c =
    c.holds.ensures
    ∙ held_at c.args.ancestry.now.changes c.in-Within.vector.prefix c.in-Within.vector.latest.items c.args.place c.requires.place
    ∙ ap (λ (p : PastSet). of_set.holds p c.args.ancestry.now.changes c.args.place) (sym c.in-Within.is)
