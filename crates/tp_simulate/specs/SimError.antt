-- The numbers of the refusals, and which of them say nothing of the script.
use Rattle.std.specs.Prelude.{◌≡◌, ◌⊎◌, ℕ}
use Rattle.tp_simulate.specs.declared.error.SimError.{SimError}
use Rattle.tp_simulate.specs.declared.error.SimError.TheVariants.{Line, Io, OutOfMemory}

abbrev pub code_of : SimError → ℕ
code_of (Line number) = 1
code_of Io = 2
code_of OutOfMemory = 3

-- a growth was refused, or the reader or the writer failed
abbrev pub IsOutsideError : SimError → Type 0
IsOutsideError e = (e ≡ OutOfMemory) ⊎ (e ≡ Io)
