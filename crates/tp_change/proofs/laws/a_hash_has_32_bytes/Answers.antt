use Rattle.tp_change.proofs.HashLaws.{hash_of_is}
use Rattle.tp_change.proofs.laws.a_hash_has_32_bytes.Goals as goal

pub returns : goal.returns
returns c = hash_of_is
