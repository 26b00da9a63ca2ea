-- The numbers of the refusals.
use Rattle.std.specs.Prelude.{ℕ}
use Rattle.tp_store.specs.declared.error.StoreError.{StoreError}
use Rattle.tp_store.specs.declared.error.StoreError.TheVariants.{BadMagic, Truncated, BadDigest, Damaged, Refused, Io, OutOfMemory, NoHeader}

abbrev pub code_of : StoreError → ℕ
code_of BadMagic = 1
code_of Truncated = 2
code_of BadDigest = 3
code_of (Damaged at) = 4
code_of (Refused e) = 5
code_of Io = 6
code_of OutOfMemory = 7
code_of NoHeader = 8
