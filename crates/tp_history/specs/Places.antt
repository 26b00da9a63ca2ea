-- Places of changes in applied order, counted from 0, and the map from hashes to places.
use Rattle.std.specs.Prelude.{◌≡◌, ℕ, ◌+◌, List, [], ◌∷◌, Option, Some, None, if◌then◌else◌}
use Rattle.tp_history.specs.Common.{slice_get, lookup, Hash, same_hash, ChangeParts, hash_of, op_count}
use Rattle.std.specs.Ordering.{is_eq, nat_cmp}

-- the place of the first change with the hash, where the first of the list has the place n
abbrev pub place_from : ℕ → List ChangeParts → Hash → Option ℕ
place_from n [] h = None
place_from n (c ∷ C) h = if same_hash (hash_of c) h then Some n else place_from (n + 1) C h

-- what a map with these entries has at the number
abbrev pub noted_word : List (ℕ × ℕ) → ℕ → Option ℕ
noted_word entries w = lookup (λ v. is_eq (nat_cmp w v)) entries

-- the change at the place i has the hash
abbrev pub HasAt : List ChangeParts → ℕ → Hash → Type 0
HasAt C i h = (c : ChangeParts) × (slice_get C i ≡ Some c) × (hash_of c ≡ h)

-- one more than the last counter of each change
abbrev pub ends_of : List ChangeParts → List ℕ
ends_of [] = []
ends_of (c ∷ C) = (c.start + op_count c) ∷ ends_of C
