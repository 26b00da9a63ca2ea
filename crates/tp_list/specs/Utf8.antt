-- Text as its characters.
use Rattle.std.specs.Prelude.{◌≡◌, ℕ, List, encode_utf8_all, IsTrue}
use Rattle.std.specs.Str.{chars, all_scalars}

-- The bytes are the UTF-8 of their characters, each of which is a scalar value.
pub record IsEncodedText (bytes : List ℕ) : Type 0 where
  pub scalars : IsTrue (all_scalars (chars bytes))
  pub spelled : encode_utf8_all (chars bytes) ≡ bytes
