-- What is marked of the records before a record of their change.
use Rattle.std.specs.Prelude.{◌≡◌, ℕ, ◌+◌, ◌<◌, ◌≤◌, List, get_or, Bool, false, ◌&&◌, nat_lt, not, IsTrue}
use Rattle.tp_graph.specs.Common.{Record, count_of}
use Rattle.tp_graph.specs.declared.before.Before.{Before}
use Rattle.tp_graph.specs.Covers.{covers}

-- No mark is set.
abbrev pub IsClear : List Bool → Type 0
IsClear marks = (j : ℕ) → get_or marks j false ≡ false

-- The marks from one place to before another are set, and the others are as they were.
pub record AreSet (old new : List Bool) (from end : ℕ) : Type 0 where
  pub below : (j : ℕ) → j < from → get_or new j false ≡ get_or old j false
  pub within : (j : ℕ) → from ≤ j → j < end → IsTrue (get_or new j false)
  pub above : (j : ℕ) → end ≤ j → get_or new j false ≡ get_or old j false

-- The records, the first of which has the counter n, have `count` operations; of these the marked ones are deletes.
pub record Marks (marks : List Bool) (n count : ℕ) (rs : List Record) : Type 0 where
  pub counted : count ≡ count_of rs
  pub each : (j : ℕ) → covers n rs (n + j) ≡ (nat_lt j count && not (get_or marks j false))
  pub rest : (j : ℕ) → count ≤ j → get_or marks j false ≡ false

-- The records are those that b describes.
abbrev pub DescribesRecords : Before → List Record → Type 0
DescribesRecords b rs = Marks b.deletes.now b.first b.count rs
