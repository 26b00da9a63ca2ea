-- A record at the start of bytes, by its parts.
use Rattle.std.specs.Prelude.{◌≡◌, ◌≤◌, List, ℕ, ◌++◌, length}
use Rattle.std.specs.Int.{w32, to_be_bytes}
use Rattle.tp_opid.specs.declared.hash.Hash.{Hash}
use Rattle.tp_layout.specs.declared.limits.TheConstants.{MAX_BYTES}

-- The length of the change's bytes, these, a digest of 32 bytes, and the rest. Neither is looked at yet.
pub record IsRecordLayout (bytes change : List ℕ) (digest : Hash) (rest : List ℕ) : Type 0 where
  pub some : 1 ≤ length change
  pub few : length change ≤ MAX_BYTES
  pub digest_len : length digest.0 ≡ 32
  pub spelled : bytes ≡ to_be_bytes w32 (length change) ++ (change ++ (digest.0 ++ rest))
