-- The content of a journal that has no file.
use Rattle.std.proofs.Common.{◌≡◌, ap, arith, sym, ℕ, List, length, append-nil, length-append}
use Rattle.tp_journal.specs.Journal.{GrowsInPart}
use Rattle.tp_recovery.specs.Recovery.{HasTail}

-- all that was read is kept
pub whole_len : (bytes tail : List ℕ) (keep : ℕ) → HasTail bytes keep tail → length tail ≡ 0 → length bytes ≡ keep
whole_len bytes tail keep has none = omega (arith, ap length has.split, length-append has.kept tail, none, has.size)

-- of what was to be appended nothing is there
pub nothing_kept : (before bytes : List ℕ) → GrowsInPart before before bytes
nothing_kept before bytes = (0, sym (append-nil before))
