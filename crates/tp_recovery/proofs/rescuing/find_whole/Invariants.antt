use Rattle.std.proofs.Common.{◌≤◌, length}
use Rattle.tp_recovery.proofs.WholeLaws.{Finding}
use Rattle.tp_recovery.proofs.rescuing.find_whole.Given as goal

-- the bytes before the rest were looked through
abbrev pub invariant-bytes : goal.invariant-bytes
invariant-bytes l = record {
  finding : Finding l.total l.bytes l.rest l.records.items l.changes.items;
  fits : length l.rest ≤ l.total;
}

abbrev pub decreases-bytes : goal.decreases-bytes
decreases-bytes l = length l.rest
