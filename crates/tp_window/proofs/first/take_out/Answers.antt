use Rattle.std.proofs.Common.{rules, ◌∙◌}
use Rattle.std.specs.Prelude.{not}
use Rattle.std.proofs.lemmas.Fn.{filter_same}
use Rattle.tp_history.proofs.HeadsLaws.{filter-without}
use Rattle.tp_history.specs.Named as named
use Rattle.tp_window.proofs.first.take_out.Goals as goal

pub returns : goal.returns
returns c =
    filter_same _ (λ h. not (named.among c.args.others.now h)) _ (λ x b g k. search rules) _ _ c.retain.ensures.filtered
    ∙ filter-without c.args.others.now c.args.heads.now.items
