use Rattle.tp_rga.proofs.Lookups.{IsThere-held, IsNew-all}
use Rattle.tp_rga.proofs.placed.contains.Goals as goal

pub returns-in-Some : goal.returns-in-Some
returns-in-Some c = IsThere-held c.args.elements.now c.args.id.now _ c.in-Some.ensures.found.0 c.in-Some.ensures.found.1

pub returns-in-None : goal.returns-in-None
returns-in-None c = IsNew-all c.args.elements.now c.args.id.now c.in-None.ensures.none
