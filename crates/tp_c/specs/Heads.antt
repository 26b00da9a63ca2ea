-- Hashes as C gives them: their bytes, one after another.
use Rattle.std.specs.Prelude.{◌≡◌, ◌⊎◌, ℕ, ◌<◌, List, length, ◌++◌, false, IsTrue}
use Rattle.std.specs.List.{All, flat_map}
use Rattle.tp_layout.specs.declared.parts.ChangeParts.{ChangeParts}
use Rattle.tp_history.specs.Named.{has_all}
use Rattle.tp_opid.specs.declared.hash.Hash.{Hash}

-- the bytes of the hashes, one after another
abbrev pub hash_bytes : List Hash → List ℕ
hash_bytes hashes = flat_map (λ (h : Hash). h.0) hashes

-- The hash has 32 bytes.
abbrev pub IsWhole : Hash → Type 0
IsWhole h = length h.0 ≡ 32

-- The bytes are those of hashes and of a part of one more.
pub record EndsInHash (bytes : List ℕ) : Type 0 where
  pub hashes : List Hash
  pub part : List ℕ
  pub parts : bytes ≡ hash_bytes hashes ++ part
  pub whole : All IsWhole hashes
  pub some : 0 < length part
  pub few : length part < 32

-- The bytes are those of these hashes, and each of them is that of one of the changes.
pub record AreHeads (C : List ChangeParts) (bytes : List ℕ) (H : List Hash) : Type 0 where
  pub bytes_are : hash_bytes H ≡ bytes
  pub known : IsTrue (has_all C H)

-- The bytes are those of hashes, and one of them is of none of the changes.
pub record HasUnknown (C : List ChangeParts) (bytes : List ℕ) : Type 0 where
  pub hashes : List Hash
  pub bytes_are : hash_bytes hashes ≡ bytes
  pub unknown : has_all C hashes ≡ false

-- Why nothing was read at such hashes: they end in a part of one, one is of none of the changes, or memory was refused.
abbrev pub RefusesHeads : List ChangeParts → List ℕ → ℕ → Type 0
RefusesHeads C bytes status = ((status ≡ 5) × EndsInHash bytes) ⊎ (((status ≡ 105) × HasUnknown C bytes) ⊎ (status ≡ 109))
