-- Marks that are kept of applied changes.
use Rattle.std.specs.Prelude.{◌≡◌, ℕ, ◌<◌, ◌≤◌, List, length, Bool, Some}
use Rattle.tp_graph.specs.Common.{slice_get, ChangeParts, op_count}
use Rattle.tp_graph.specs.declared.marked.Marked.{Marked}
use Rattle.tp_graph.specs.Before.{Marks}

-- There is a mark for each operation of the change, and the marked ones are its deletes.
pub record IsMarked (c : ChangeParts) (deletes : List Bool) : Type 0 where
  pub marks : Marks deletes c.start (op_count c) c.records
  pub room : op_count c ≤ length deletes

-- There is a change at the place, and the marks are its.
pub record IsMarkedAt (C : List ChangeParts) (m : Marked) : Type 0 where
  pub place : m.place < length C
  pub marked : (c : ChangeParts) → slice_get C m.place ≡ Some c → IsMarked c m.deletes.items

-- Each entry has the marks of the change at its place.
abbrev pub AreMarked : List ChangeParts → List Marked → Type 0
AreMarked C ms = (k : ℕ) → (m : Marked) → slice_get ms k ≡ Some m → IsMarkedAt C m

-- The same marks are kept for the same place.
pub record IsSameMarked (m n : Marked) : Type 0 where
  pub place : n.place ≡ m.place
  pub deletes : n.deletes.items ≡ m.deletes.items
