-- Which changes a message tells of as known: fewer and fewer, the farther they are from the end of the list.
use Rattle.std.specs.Prelude.{◌≡◌, ◌≤◌, ℕ, suc, zero, ◌-◌, ◌^◌, List, [], ◌++◌, length, nat_le, if◌then◌else◌, drop, take, map, Some}
use Rattle.tp_sync.specs.Common.{Hash, hash_cmp, ChangeParts, hash_of, slice_get, rising, MAX_KNOWN}

-- the hash of the change that is n places before the end of C, where C has as many
abbrev pub before_end : List ChangeParts → ℕ → List Hash
before_end C n = if nat_le n (length C) then map hash_of (take 1 (drop (length C - n) C)) else []

-- the hashes of the changes that are 2 ^ k places before the end of C, for each k below the number
abbrev pub powers_before_end : List ChangeParts → ℕ → List Hash
powers_before_end C zero = []
powers_before_end C (suc k) = before_end C (2 ^ k) ++ powers_before_end C k

-- the hashes of the changes that are 1, 2, 4, 8 and so on places before the end of C, rising
abbrev pub known_hashes : List ChangeParts → List Hash
known_hashes C = rising hash_cmp (powers_before_end C MAX_KNOWN)

-- The hash is that of the change that is 2 ^ k places before the end of C.
pub record IsPowerBeforeEnd (C : List ChangeParts) (h : Hash) : Type 0 where
  pub k : ℕ
  pub change : ChangeParts
  pub within : 2 ^ k ≤ length C
  pub present : slice_get C (length C - 2 ^ k) ≡ Some change
  pub hash : hash_of change ≡ h
