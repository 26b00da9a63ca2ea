-- The numbers of the refusals.
use Rattle.std.specs.Prelude.{ℕ}
use Rattle.tp_layout.specs.declared.error.ChangeError.{ChangeError}
use Rattle.tp_layout.specs.declared.error.ChangeError.TheVariants.{Version, Short, Trailing, ZeroSeqOrStart, BadUtf8, DepsOrder, NoRecords, BadTag, EmptyRun, Limit, OutOfMemory, NoRun}

abbrev pub code_of : ChangeError → ℕ
code_of Version = 1
code_of Short = 2
code_of Trailing = 3
code_of ZeroSeqOrStart = 4
code_of BadUtf8 = 5
code_of DepsOrder = 6
code_of NoRecords = 7
code_of BadTag = 8
code_of EmptyRun = 9
code_of Limit = 10
code_of OutOfMemory = 11
code_of NoRun = 12
