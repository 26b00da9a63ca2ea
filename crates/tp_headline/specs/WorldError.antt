-- The numbers of the refusals of a world.
use Rattle.std.specs.Prelude.{ℕ}
use Rattle.tp_headline.specs.declared.error.WorldError.{WorldError}
use Rattle.tp_headline.specs.declared.error.WorldError.TheVariants.{NoPeer, ActorUsed, ForeignChange, HashClash, Stopped, NoEntry, OutOfMemory}

abbrev pub code_of : WorldError → ℕ
code_of NoPeer = 1
code_of ActorUsed = 2
code_of ForeignChange = 3
code_of HashClash = 4
code_of Stopped = 5
code_of NoEntry = 6
code_of OutOfMemory = 7
