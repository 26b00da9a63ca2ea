use Rattle.std.proofs.Common.{ap, ◌∙◌}
use Rattle.std.specs.Option.{is_some}
use Rattle.tp_history.specs.Named.{has}
use Rattle.tp_history.proofs.PlacesLaws.{is_some-place_from}
use Rattle.tp_document.specs.DocState.{DocState}
use Rattle.tp_document.proofs.merging.place_of.Goals as goal

pub returns : goal.returns
returns g c =
    ap is_some c.place.ensures
    ∙ is_some-place_from 0 c.document.inside.graph.applied c.args.hash.now
    ∙ ap (λ (d : DocState). has d.applied c.args.hash.now) c.document.view_is
