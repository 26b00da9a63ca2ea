-- Which refusal of a page's request stands for another one.
use Rattle.tp_opid.specs.declared.hex_text.HexError.{HexError}
use Rattle.tp_opid.specs.declared.hex_text.HexError.TheVariants as hex
use Rattle.tp_window.specs.declared.error.WindowError.{WindowError}
use Rattle.tp_window.specs.declared.error.WindowError.TheVariants.{BadRequest, OutOfMemory}

-- the refusal of a text that isn't one of a hash or an actor
abbrev pub refusal_of_text : HexError → WindowError
refusal_of_text hex.BadHex = BadRequest
refusal_of_text hex.OutOfMemory = OutOfMemory
