use Rattle.tp_recovery.proofs.BytesLaws.{journal_is}
use Rattle.tp_recovery.proofs.laws.journals_are_bytes.Goals as goal

pub returns : goal.returns
returns c = journal_is
