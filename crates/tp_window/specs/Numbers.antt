-- Which heads a window has under which number.
use Rattle.std.specs.Prelude.{◌≡◌, ℕ, ◌+◌, List, Some, Vec, vec_len}
use Rattle.std.specs.List.{slice_get}
use Rattle.std.specs.declared.alloc.Global.{Global}
use Rattle.tp_opid.specs.declared.hash.Hash.{Hash}
use Rattle.tp_window.specs.declared.memory.Memory.{Memory}

-- the number of the next answer that has heads
abbrev pub next_number : Memory → ℕ
next_number memory = memory.first + vec_len memory.kept

-- The answer with the number had these heads, and the window has them still.
pub record HadHeads (memory : Memory) (number : ℕ) (H : List Hash) : Type 0 where
  pub at : ℕ
  pub numbered : number ≡ memory.first + at
  pub heads : Vec Hash Global
  pub here : slice_get memory.kept.items at ≡ Some heads
  pub same : heads.items ≡ H
