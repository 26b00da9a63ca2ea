-- The numbers of the refusals.
use Rattle.std.specs.Prelude.{ℕ}
use Rattle.tp_opid.specs.declared.hex_text.HexError.{HexError}
use Rattle.tp_opid.specs.declared.hex_text.HexError.TheVariants.{BadHex, OutOfMemory}

abbrev pub code_of : HexError → ℕ
code_of BadHex = 1
code_of OutOfMemory = 2
