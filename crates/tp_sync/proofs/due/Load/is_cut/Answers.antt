use Rattle.tp_sync.proofs.Common.{subst, Option, IsRest}
use Rattle.tp_sync.specs.declared.due.Rest.{Rest}
use Rattle.tp_sync.proofs.due.Load.is_cut.Goals as goal

pub leaves-requires : goal.leaves-requires
leaves-requires c = (c.requires.0, subst (λ (o : Option Rest). IsRest c.args.graph.now.applied c.requires.0 o) c.in-Some.is c.requires.1)

pub returns-in-Some : goal.returns-in-Some
returns-in-Some c = λ s declared. c.leaves.ensures s (subst (λ (o : Option Rest). IsRest c.args.graph.now.applied s o) c.in-Some.is declared)
