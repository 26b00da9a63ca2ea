-- What contracts see of a message, and its limits.
use Rattle.std.specs.Prelude.{◌≡◌, ◌⊎◌, ℕ, ◌≤◌, List, [], length}
use Rattle.tp_message.specs.Common.{AllByRecursion, In, IsRising, Hash, hash_cmp, ChangeParts, IsChange, IsHash}
use Rattle.tp_message.specs.declared.limits.TheConstants.{MAX_HASHES, MAX_KNOWN, MAX_CHANGES}

-- The version of the layout, the heads of the sender, the hashes of the changes that it wants, those of changes that it
-- has, and the changes that it sends.
pub record MessageParts : Type 0 where
  pub version : ℕ
  pub heads : List Hash
  pub wants : List Hash
  pub known : List Hash
  pub changes : List ChangeParts

-- a message of version 2 of its parts
abbrev pub message_of_parts : List Hash → List Hash → List Hash → List ChangeParts → MessageParts
message_of_parts heads wants known changes = record { version = 2; heads = heads; wants = wants; known = known; changes = changes }

-- At most `limit` hashes, strictly rising.
pub record AreHashes (limit : ℕ) (hashes : List Hash) : Type 0 where
  pub each : AllByRecursion IsHash hashes
  pub rise : IsRising hash_cmp hashes
  pub few : length hashes ≤ limit

-- What messages of each version tell of known changes: those of version 1 nothing, those of version 2 up to 32 hashes.
abbrev pub TellsKnown : ℕ → List Hash → Type 0
TellsKnown version known = ((version ≡ 1) × (known ≡ [])) ⊎ ((version ≡ 2) × AreHashes MAX_KNOWN known)

-- A message within the limits: all that has a spelling.
pub record IsMessage (m : MessageParts) : Type 0 where
  pub heads : AreHashes MAX_HASHES m.heads
  pub wants : AreHashes MAX_HASHES m.wants
  pub known : TellsKnown m.version m.known
  pub changes : (c : ChangeParts) → In c m.changes → IsChange c
  pub few : length m.changes ≤ MAX_CHANGES
