use Rattle.tp_ancestry.proofs.SinceLaws.{skip-marks}
use Rattle.tp_ancestry.proofs.ancestry.Ancestry.changes_since.Goals as goal

pub returns : goal.returns
returns c =
    rw (← skip-marks c.args.self.now.changes c.args.hashes.now, ← c.in_ok-past_set.ensures.bits) c.outside.ensures
