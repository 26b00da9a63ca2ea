-- What is kept beside the ancestry of applied changes: marks of their operations, and what was made for the next change.
use Rattle.std.specs.Prelude.{◌≡◌, ◌<◌, List, Option, Some, None, Vec}
use Rattle.std.specs.Global.{Global}
use Rattle.std.specs.Vec.{vec_len, vec_capacity}
use Rattle.tp_graph.specs.Common.{Hash, ChangeParts}
use Rattle.tp_graph.specs.declared.applied.Applied.TheInside.{Inside}
use Rattle.tp_graph.specs.declared.applied.Room.{Room}
use Rattle.tp_ancestry.specs.VersionVectors.{IsKnown}
use Rattle.tp_history.specs.Heads as head
use Rattle.tp_graph.specs.Before.{IsClear}
use Rattle.tp_graph.specs.Marked.{AreMarked}

-- the dependencies that something was made ready for: the heads, where no others are kept
abbrev pub made_for : List Hash → Option (Vec Hash Global) → List Hash
made_for heads None = heads
made_for heads (Some deps) = deps.items

-- What was made ready is for the change: it has its dependencies, the version vector is that of their past, and no mark is set.
pub record IsRoomFor (C : List ChangeParts) (c : ChangeParts) (r : Room) : Type 0 where
  pub deps : made_for (head.heads C) r.deps ≡ c.deps
  pub past : IsKnown C c.deps r.past
  pub clear : IsClear r.deletes.items

-- Every growth beside that of the ancestry is made: the version vector is that of the dependencies that it was made for, no
-- mark is set, and there is room to keep the marks.
pub record IsReady (r : Room) (a : Inside) : Type 0 where
  pub past : IsKnown a.ancestry.changes (made_for (head.heads a.ancestry.changes) r.deps) r.past
  pub clear : IsClear r.deletes.items
  pub marks : vec_len a.marked < vec_capacity a.marked

-- It is made where the ancestry has room for a change.
abbrev pub IsReadyIf : Option Hash → Option Room → Inside → Type 0
IsReadyIf None o a = Unit {0}
IsReadyIf (Some h) None a = ⊥
IsReadyIf (Some h) (Some r) a = IsReady r a

-- The marks are those of the changes, and where the ancestry has room for one, the rest is made too.
pub record AreMarksAndRoom (a : Inside) : Type 0 where
  pub marked : AreMarked a.ancestry.changes a.marked.items
  pub ready : IsReadyIf a.ancestry.room a.room a
