-- Tests in an order, and the first of them that isn't passed.
use Rattle.std.specs.Prelude.{ℕ, ◌<◌}

-- Of the tests, each of which is for a refusal and has a number, those with a smaller number than this one are passed, and
-- this one isn't.
pub record FailsFirst {E : Type 0} (number : E → ℕ) (Passes : E → Type 0) (why : E) : Type 0 where
  pub before : (other : E) → number other < number why → Passes other
  pub fails : Passes why → ⊥
