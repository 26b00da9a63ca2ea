-- Where the bytes of a text are.
use Rattle.std.specs.Prelude.{ℕ, List}
use Rattle.std.specs.String.{string_bytes}
use Rattle.tp_list.specs.declared.text.Kept.{Kept}
use Rattle.tp_list.specs.declared.text.Kept.TheVariants.{Short, Long}

-- the bytes, in the text itself or in a String
abbrev pub bytes_of : Kept → List ℕ
bytes_of (Short text) = text.bytes
bytes_of (Long text) = string_bytes text
