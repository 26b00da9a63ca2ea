-- The changes that were made, and the hashes that are noted for them.
use Rattle.std.specs.Prelude.{ℕ, ◌<◌, List, Bool, Option, Some, None, IsTrue}
use Rattle.tp_event.specs.Common.{list_any, ChangeParts, Hash}
use Rattle.tp_opid.specs.Same.{same_hash}
use Rattle.tp_change.specs.ChangeHash.{hash_of}
use Rattle.tp_history.specs.Named.{has}

-- the changes, in the order in which they were made; how many more there is room for; and the hashes that are noted
pub record MadeState : Type 0 where
  pub items : List ChangeParts
  pub spare : ℕ
  pub noted : List Hash

-- the hash is one of those that are noted
abbrev pub is_noted : List Hash → Hash → Bool
is_noted noted h = list_any (same_hash h) noted

-- The hash of each of the changes is noted.
abbrev pub HashesAreNoted : List ChangeParts → List Hash → Type 0
HashesAreNoted made noted = (h : Hash) → IsTrue (has made h) → IsTrue (is_noted noted h)

-- The hash of the change is noted, if there is a change.
abbrev pub IsNotedFor : List Hash → Option ChangeParts → Type 0
IsNotedFor noted (Some c) = IsTrue (is_noted noted (hash_of c))
IsNotedFor noted None = Unit {0}

-- The change may be made, if there is one: there is room for it, and its hash is noted.
pub record MayBeMade (made : MadeState) (change : Option ChangeParts) : Type 0 where
  pub room : 0 < made.spare
  pub noted : IsNotedFor made.noted change
