use Rattle.tp_ancestry.proofs.Common.{◌∙◌, ap, is_some}
use Rattle.tp_history.proofs.PlacesLaws.{is_some-place_from}
use Rattle.tp_ancestry.proofs.ancestry.Ancestry.contains.Goals as goal

pub returns : goal.returns
returns c = c.is_some.ensures ∙ ap is_some c.place.ensures.place ∙ is_some-place_from 0 c.args.self.now.changes c.args.hash.now
