use Rattle.tp_ancestry.proofs.Common.{◌∙◌, not, filter_same}
use Rattle.std.proofs.Common.{rules}
use Rattle.tp_history.specs.Named as named
use Rattle.tp_history.proofs.HeadsLaws.{filter-without}
use Rattle.tp_ancestry.proofs.heads.take_out.Goals as goal

pub returns-clause-items : goal.returns-clause-items
returns-clause-items c =
    filter_same _ (λ h. not (named.among c.args.others.now h)) _ (λ x b g k. search rules) _ _ c.retain.ensures.filtered
    ∙ filter-without c.args.others.now c.args.heads.now.items
