-- What contracts see of a document, and what it keeps.
use Rattle.std.specs.Prelude.{◌≡◌, ℕ, ◌≤◌, List, [], length, Option, Some}
use Rattle.tp_document.specs.Common.{In, Hash, OpId, Insert, ChangeParts, hash_of, inserts, deletes, AllChanges, IsInOrder, most_changes, Sound, DocId}
use Rattle.tp_change.specs.Operations.{op_count}

-- Its identifier; the changes that are applied, in the order in which they entered; those that wait, in the order in
-- which they came; the hash of the change for whose entry room was made, if there is one; and how many operations the
-- sequence of elements takes in without further memory.
pub record DocState : Type 0 where
  pub id : DocId
  pub applied : List ChangeParts
  pub waiting : List ChangeParts
  pub room : Option Hash
  pub space : ℕ

-- Room was made for the entry of this very change.
pub record HasRoomFor (d : DocState) (c : ChangeParts) : Type 0 where
  pub noted : d.room ≡ Some (hash_of c)
  pub space : op_count c ≤ d.space

-- Room was made at most: d' has what d has.
pub record MakesRoom (d d' : DocState) : Type 0 where
  pub id : d'.id ≡ d.id
  pub applied : d'.applied ≡ d.applied
  pub waiting : d'.waiting ≡ d.waiting
  pub space : d.space ≤ d'.space

-- The document has that identifier and those applied changes, and none waits.
pub record HasJust (id : DocId) (C : List ChangeParts) (d : DocState) : Type 0 where
  pub named : d.id ≡ id
  pub applied : d.applied ≡ C
  pub waiting : d.waiting ≡ []
