use Rattle.tp_recovery.proofs.CutLaws.{journal-append, journal-push}
use Rattle.tp_recovery.proofs.laws.journals_grow.Goals as goal

pub returns : goal.returns
returns c = record { one = journal-push; more = journal-append }
