-- Where the counters of named changes end.
use Rattle.std.specs.Prelude.{◌≡◌, ℕ, ◌+◌, ◌<◌, List, [], ◌∷◌, length, Some, if◌then◌else◌}
use Rattle.tp_ancestry.specs.Common.{slice_get, Hash, same_hash, ChangeParts, hash_of, op_count, later}
use Rattle.tp_ancestry.specs.declared.lists.TheConstants.{WIDE}

-- one more than the last counter of the change with the hash, or 0 where none has it
abbrev pub end_named : List ChangeParts → Hash → ℕ
end_named [] h = 0
end_named (c ∷ C) h = if same_hash (hash_of c) h then c.start + op_count c else end_named C h

-- the greatest of these over hashes, at least 1
abbrev pub latest_end : List ChangeParts → List Hash → ℕ
latest_end C [] = 1
latest_end C (h ∷ H) = later (end_named C h) (latest_end C H)

-- There is a number for each change; below WIDE it is one more than the change's last counter.
pub record AreEnds (C : List ChangeParts) (ends : List ℕ) : Type 0 where
  pub each : length ends ≡ length C
  pub known : (i : ℕ) → (c : ChangeParts) → (n : ℕ) → slice_get C i ≡ Some c → slice_get ends i ≡ Some n → n < WIDE → n ≡ c.start + op_count c
