-- Sets of hashes, against the changes whose hashes they have.
use Rattle.std.specs.Prelude.{◌≡◌, List, Bool}
use Rattle.tp_receive.specs.Common.{Hash, ChangeParts, has, same_hash, list_any}

-- whether the hash is one of the set
abbrev pub has_hash : List Hash → Hash → Bool
has_hash H h = list_any (same_hash h) H

-- The set has the hashes of the changes and no others.
abbrev pub IsHashSetOf : List Hash → List ChangeParts → Type 0
IsHashSetOf H C = (h : Hash) → has_hash H h ≡ has C h
