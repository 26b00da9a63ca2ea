use Rattle.std.proofs.Common.{◌≡◌, ◌++◌, List, ℕ, length}
use Rattle.tp_recovery.specs.Whole.{HoldsRecord}
use Rattle.tp_recovery.proofs.rescuing.holds_record.Given as goal

-- the rest is the end of the bytes, and no record begins before it
abbrev pub invariant-bytes : goal.invariant-bytes
invariant-bytes l = record {
  end : (first : List ℕ) × (l.bytes ≡ first ++ l.rest);
  none : HoldsRecord l.bytes → HoldsRecord l.rest;
}

abbrev pub decreases-bytes : goal.decreases-bytes
decreases-bytes l = length l.rest
