-- The numbers of the refusals.
use Rattle.std.specs.Prelude.{ℕ}
use Rattle.tp_frame.specs.declared.error.FrameError.{FrameError}
use Rattle.tp_frame.specs.declared.error.FrameError.TheVariants.{TooLong, BadKind, BadHello, OutOfMemory}

abbrev pub code_of : FrameError → ℕ
code_of TooLong = 1
code_of BadKind = 2
code_of BadHello = 3
code_of OutOfMemory = 4
