use Rattle.tp_ancestry.proofs.VectorLaws.{IsVectorOf-none}
use Rattle.tp_ancestry.proofs.ancestry.Ancestry.vector_of.Goals as goal

pub loop-number-init : goal.loop-number-init
loop-number-init c = IsVectorOf-none c.args.self.now.changes c.args.hashes.now c.empty-vector.result c.empty-vector.ensures.prefix c.empty-vector.ensures.latest
