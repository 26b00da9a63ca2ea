use Rattle.tp_snapshot.proofs.Common.{refl}
use Rattle.tp_snapshot.proofs.TargetLaws.{alone_covers}
use Rattle.tp_snapshot.proofs.targets.Stretch.of.Goals as goal

pub returns : goal.returns
returns c = λ x. alone_covers _ c.args.id.now x refl
