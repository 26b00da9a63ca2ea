-- What a call that puts bytes into a sink leaves.
use Rattle.std.specs.Prelude.{ℕ, List, ◌++◌}

-- Whatever the sink held before, it holds that and then the bytes.
pub record Puts {S : Type 0} (holds : S → List ℕ → Type 0) (old new : S) (bytes : List ℕ) : Type 0 where
  pub after : (m : List ℕ) → holds old m → holds new (m ++ bytes)
