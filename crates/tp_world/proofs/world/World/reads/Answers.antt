use Rattle.tp_world.proofs.Common.{subst, WorldInvariant, World, carried_headline}
use Rattle.tp_world.proofs.world.World.reads.Goals as goal

pub returns-clause-headline : goal.returns-clause-headline
returns-clause-headline c = carried_headline c.args.self.now (subst (λ (w : World). WorldInvariant w) c.self.view_is c.self.invariant)
