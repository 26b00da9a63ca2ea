-- The numbers of the refusals, and which of them say nothing of the log.
use Rattle.std.specs.Prelude.{◌≡◌, ◌⊎◌, ℕ}
use Rattle.tp_textpeer.specs.declared.error.ShowFault.{ShowFault}
use Rattle.tp_textpeer.specs.declared.error.ShowFault.TheVariants.{NotChain, BadSeq, BadStart, BadReference, Change, OutOfMemory, Io}

abbrev pub code_of : ShowFault → ℕ
code_of NotChain = 1
code_of BadSeq = 2
code_of BadStart = 3
code_of BadReference = 4
code_of (Change e) = 5
code_of OutOfMemory = 6
code_of Io = 7

-- a growth was refused, or the reader or the writer failed
abbrev pub IsOutsideFault : ShowFault → Type 0
IsOutsideFault f = (f ≡ OutOfMemory) ⊎ (f ≡ Io)
