-- What a clause sees of a framer of parts.
use Rattle.std.specs.Prelude.{ℕ, List}
use Rattle.tp_frame.specs.declared.parts.Stage.{Stage}

-- where it is in the stream, and the bytes that it holds
pub record PartState : Type 0 where
  pub stage : Stage
  pub held : List ℕ
