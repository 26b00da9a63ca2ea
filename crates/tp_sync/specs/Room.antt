-- Whether a message has room for one change more.
use Rattle.std.specs.Prelude.{ℕ, ◌+◌, ◌<◌, List, [], ◌∷◌, length}
use Rattle.tp_sync.specs.Common.{ChangeParts, spelling, MAX_CHANGES}
use Rattle.tp_sync.specs.declared.limits.TheConstants.{FULL_BYTES}

-- how many bytes the changes have
abbrev pub size_of : List ChangeParts → ℕ
size_of [] = 0
size_of (c ∷ C) = length (spelling c) + size_of C

-- A message with `count` changes, of `size` bytes, takes a further one.
pub record TakesAnotherChange (count size : ℕ) : Type 0 where
  pub changes : count < MAX_CHANGES
  pub bytes : size < FULL_BYTES
