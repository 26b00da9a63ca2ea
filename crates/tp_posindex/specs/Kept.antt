-- Where each block is in the order, and how long each is: what always holds of what is kept beside the blocks.
use Rattle.std.specs.Prelude.{◌≡◌, ℕ, ◌<◌, Bool, List, length, map, slice_index_or}
use Rattle.tp_posindex.specs.Laid.{blocks_in_order, PoolInvariant}

-- For each block of the order the index has where it is.
abbrev pub AreIndexed : List ℕ → List ℕ → Type 0
AreIndexed order index = (p : ℕ) → p < length order → slice_index_or index (slice_index_or order p 0) 0 ≡ p

-- The blocks are laid; the index has each; and each has its length.
pub record BlocksInvariant (pool : List (List ℕ)) (order index lens visible home : List ℕ) (flags : List Bool) : Type 0 where
  pub blocks : PoolInvariant pool order visible home flags
  pub many : length index ≡ length order
  pub indexed : AreIndexed order index
  pub measured : lens ≡ map length (blocks_in_order pool order)
