use Rattle.tp_ancestry.proofs.Common.{subst, Option, VersionVector, IsVectorOf, IsKnown}
use Rattle.tp_ancestry.proofs.VectorLaws.{held-marks}
use Rattle.tp_ancestry.proofs.ancestry.Ancestry.past_set_of.Goals as goal

pub returns-in-Some-clause-bits : goal.returns-in-Some-clause-bits
returns-in-Some-clause-bits c =
    let known : IsVectorOf c.args.self.now.changes c.args.hashes.now c.in-Some.vector =
    subst (λ (o : Option VersionVector). IsKnown c.args.self.now.changes c.args.hashes.now o) c.in-Some.is c.requires in
    held-marks c.args.self.now.changes c.args.hashes.now c.in-Some.vector c.changes-changes.ensures.sound known
