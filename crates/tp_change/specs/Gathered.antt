-- What a hasher and the bytes that it hasn't hashed yet have together.
use Rattle.std.specs.Prelude.{◌≡◌, ℕ, ◌≤◌, List, ◌++◌, take}
use Rattle.sha2.specs.Hashers.{Holds256}
use Rattle.sha2.specs.declared.Sha256.{Sha256}

-- The hasher has a beginning of the bytes, and the first len of those that are held are the rest.
pub record HasGathered (hasher : Sha256) (held : List ℕ) (len : ℕ) (m : List ℕ) : Type 0 where
  pub front : List ℕ
  pub holds : Holds256 hasher front
  pub within : len ≤ 256
  pub all : m ≡ front ++ take len held
