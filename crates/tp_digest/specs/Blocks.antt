-- A padded message by blocks.
use Rattle.std.specs.Prelude.{ℕ, List, ◌*◌, ◌/◌, length, take, drop}
use Rattle.sha2.specs.Sha256.{hash_after, initial_hash_256, padded_message}

-- how many blocks a padded message has
abbrev pub block_count : List ℕ → ℕ
block_count m = length (padded_message m) / 64

-- block i of a padded message
abbrev pub block_of : List ℕ → ℕ → List ℕ
block_of m i = take 64 (drop (i * 64) (padded_message m))

-- what a padded message has after the message's whole blocks
abbrev pub tail_of : List ℕ → List ℕ
tail_of m = drop (length m / 64 * 64) (padded_message m)

-- the hash value after a message's first i blocks
abbrev pub hash_after_blocks : List ℕ → ℕ → List ℕ
hash_after_blocks m i = hash_after initial_hash_256 (padded_message m) i
