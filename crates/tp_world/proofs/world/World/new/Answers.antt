use Rattle.tp_world.proofs.Common.{subst, sym, WorldInvariant, World, beginning_carried}
use Rattle.tp_world.proofs.world.World.new.Goals as goal

pub invariant_of-result : goal.invariant_of-result
invariant_of-result c = subst (λ (w : World). WorldInvariant w) (sym c.new.ensures) (beginning_carried c.args.id c.array_len-len.ensures.bytes)
