-- How often a lock is tried.
use Rattle.std.specs.Prelude.{◌+◌, ◌*◌, ◌-◌, ◌^◌, ℕ, min, Result, Ok, Err}
use Rattle.tp_journal.specs.declared.opening.OpenError.{OpenError}
use Rattle.tp_journal.specs.declared.opening.OpenError.TheVariants.{Busy, Io, OutOfMemory}

-- how many tries there are at most in that many seconds: four each second, up to 2^64 - 1, and one more
abbrev pub tries_in : ℕ → ℕ
tries_in seconds = min (seconds * 4) (2 ^ 64 - 1) + 1

-- how often the lock was another's, by what a try answered
abbrev pub refusals_of : {T : Type 0} → Result T OpenError → ℕ
refusals_of (Ok opened) = 0
refusals_of (Err Busy) = 1
refusals_of (Err Io) = 0
refusals_of (Err OutOfMemory) = 0
