use Rattle.std.proofs.Common.{◌≡◌, List, ℕ, ◌++◌, length}
use Rattle.tp_recovery.specs.Pieces.{BeginsWithJournal}
use Rattle.tp_recovery.proofs.pieces.enter_records.Given as goal

-- the document has the changes of the records before the rest
abbrev pub invariant-records : goal.invariant-records
invariant-records g l = record {
  beyond : BeginsWithJournal l._came.bytes l.recovered.document l.recovered.keep l.rest;
  read : (read : List ℕ) × (l.bytes ≡ read ++ l.rest);
}

abbrev pub decreases-records : goal.decreases-records
decreases-records g l = length l.rest
