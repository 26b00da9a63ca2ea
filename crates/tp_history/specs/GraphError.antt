-- The numbers of the refusals.
use Rattle.std.specs.Prelude.{ℕ}
use Rattle.tp_history.specs.declared.error.GraphError.{GraphError}
use Rattle.tp_history.specs.declared.error.GraphError.TheVariants.{Known, MissingDeps, BadSeq, BadStart, BadReference, SeqClash, UnknownHead, Full, OutOfMemory}

abbrev pub code_of : GraphError → ℕ
code_of Known = 1
code_of MissingDeps = 2
code_of BadSeq = 3
code_of BadStart = 4
code_of BadReference = 5
code_of SeqClash = 6
code_of UnknownHead = 7
code_of Full = 8
code_of OutOfMemory = 9
