use Rattle.std.proofs.Common.{length}
use Rattle.tp_recovery.specs.Pieces.{BeginsWithJournal}
use Rattle.tp_recovery.proofs.rescuing.keep_records.Given as goal

-- the document has the changes of the records before the rest
abbrev pub invariant-records : goal.invariant-records
invariant-records g l = record {
  beyond : BeginsWithJournal l._all l.document l.keep l.rest;
}

abbrev pub decreases-records : goal.decreases-records
decreases-records g l = length l.rest
