use Rattle.sha2.specs.Sha256.{add32}
use Rattle.tp_digest.proofs.Lanewise.{itself, both}
use Rattle.tp_digest.proofs.words.sum.Goals as goal

pub returns : goal.returns
returns c =
    both add32 _ _ _ _ (itself c.args.x c.fits-x.0) (itself c.args.y c.fits-y.0)
