use Rattle.tp_store.proofs.WholeFile.{other_digest}
use Rattle.tp_store.proofs.laws.another_digest_is_bad.Goals as goal

pub returns : goal.returns
returns c = other_digest
