use Rattle.tp_ancestry.proofs.Common.{arith, refl}
use Rattle.tp_ancestry.proofs.EndLaws.{end-first}
use Rattle.tp_ancestry.proofs.VectorLaws.{IsVectorOf-none}
use Rattle.tp_ancestry.proofs.ancestry.Ancestry.join_hashes.Goals as goal

pub loop-number-init : goal.loop-number-init
loop-number-init c = record {
  start = end-first c.args.self.now.changes c.args.hashes.now;
  some = omega arith;
  there = refl;
  past = IsVectorOf-none c.args.self.now.changes c.args.hashes.now c.empty.result c.empty.ensures.prefix c.empty.ensures.latest;
}
