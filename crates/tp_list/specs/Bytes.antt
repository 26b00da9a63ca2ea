-- Lists of bytes.
use Rattle.std.specs.Prelude.{◌≡◌, ℕ, ◌<◌, List, length, slice_index, [], ◌∷◌, ◌++◌}

-- the list is n bytes
pub record IsBytes (n : ℕ) (bytes : List ℕ) : Type 0 where
  pub count : length bytes ≡ n
  pub each : (i : ℕ) → slice_index bytes i < 256

-- the bytes of a line: those of its text, and a newline
abbrev pub line : List ℕ → List ℕ
line text = text ++ 10 ∷ []
