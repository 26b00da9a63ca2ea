-- What a writer holds after it was given bytes.
use Rattle.std.specs.Prelude.{◌≡◌, ℕ, List, ◌++◌, Option}
use Rattle.std.specs.Io.KnownBytes.{Appends}

-- What the writer holds grew by a beginning of the bytes: by none, by some or by all of them.
pub record AppendsPart (before after : Option (List ℕ)) (bytes : List ℕ) : Type 0 where
  pub part : List ℕ
  pub rest : List ℕ
  pub begins : bytes ≡ part ++ rest
  pub grown : Appends before after part
