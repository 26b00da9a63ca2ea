-- What contracts see of a graph, and of the changes that wait.
use Rattle.std.specs.Prelude.{ℕ, ◌≤◌, List, length, Option}
use Rattle.tp_graph.specs.Common.{Hash, ChangeParts}
use Rattle.tp_graph.specs.declared.limits.TheConstants.{MOST_WAITING}
use Rattle.tp_history.specs.Named.{HashesOnce}

-- The changes that are applied, in the order in which they entered; those that wait, in the order in which they
-- came; and the hash of the change for whose entry every growth is made, if there is one.
pub record GraphState : Type 0 where
  pub applied : List ChangeParts
  pub waiting : List ChangeParts
  pub room : Option Hash

-- how many changes wait at most
abbrev pub most_waiting : ℕ
most_waiting = MOST_WAITING

-- At most 1,024 changes wait, each hash once.
pub record IsWaiting (waiting : List ChangeParts) : Type 0 where
  pub few : length waiting ≤ most_waiting
  pub once : HashesOnce waiting
