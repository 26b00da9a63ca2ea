-- Which part of the bytes a refusal is about.
use Rattle.std.specs.Prelude.{◌≡◌, ℕ, ◌<◌, ◌≤◌, ◌⊎◌, List, ◌∷◌, ◌++◌, length, Err}
use Rattle.tp_layout.specs.declared.limits.TheConstants.{MAX_BYTES}
use Rattle.tp_layout.specs.declared.error.ChangeError.{ChangeError}
use Rattle.tp_layout.specs.declared.error.ChangeError.TheVariants.{Short, NoRun}
use Rattle.tp_layout.specs.declared.parts.ChangeParts.{ChangeParts}
use Rattle.tp_layout.specs.Spelling.{spelling}
use Rattle.tp_layout.specs.Limits.{IsChange}
use Rattle.tp_layout.specs.Reading.{change_at}

-- The bytes are a change's.
abbrev pub IsSpelling : List ℕ → Type 0
IsSpelling bytes = (c : ChangeParts) × IsChange c × (bytes ≡ spelling c)

-- The prefix is to blame for the fault.
pub record IsToBlame (prefix : List ℕ) (e : ChangeError) : Type 0 where
  -- no change's bytes begin with it
  pub barred : (c : ChangeParts) (more : List ℕ) → IsChange c → spelling c ≡ prefix ++ more → ⊥
  -- each shorter prefix is a change, or nothing is wrong with it but that bytes are missing, or a run of deletes
  pub shorter : (begin more : List ℕ) → prefix ≡ begin ++ more → 0 < length more → IsSpelling begin ⊎ ((change_at begin ≡ Err Short) ⊎ (change_at begin ≡ Err NoRun))
  -- all bytes within the limit that begin with it have the fault
  pub longer : (more : List ℕ) → length (prefix ++ more) ≤ MAX_BYTES → change_at (prefix ++ more) ≡ Err e

-- The bytes are those of a change without a run of deletes, but for their first, which is 2 in place of 1.
abbrev pub IsVersion2WithoutRun : List ℕ → Type 0
IsVersion2WithoutRun bytes = (rest : List ℕ) × (bytes ≡ 2 ∷ rest) × IsSpelling (1 ∷ rest)

-- Some prefix of the bytes is to blame for the fault.
abbrev pub HasFaultyPrefix : List ℕ → ChangeError → Type 0
HasFaultyPrefix bytes e = (prefix : List ℕ) × (back : List ℕ) × (bytes ≡ prefix ++ back) × IsToBlame prefix e
