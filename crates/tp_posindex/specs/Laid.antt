-- Numbers of elements in blocks, with a flag for each: what contracts see, and what always holds of the parts.
use Rattle.std.specs.Prelude.{◌≡◌, ℕ, ◌+◌, ◌-◌, ◌*◌, ◌<◌, Bool, false, not, List, [], ◌∷◌, length, filter, map, min, max, slice_index_or}
use Rattle.tp_list.specs.Members.{In}
use Rattle.tp_posindex.specs.Layout.{concat_blocks, block_at, AreSized}

-- The blocks in list order, each as the numbers of its elements; for each number whether its element is deleted; how
-- many blocks can be opened, and how many numbers can be taken in, without further memory.
pub record Layout : Type 0 where
  pub blocks : List (List ℕ)
  pub flags : List Bool
  pub spare : ℕ
  pub slots : ℕ

-- How many numbers can be put in without further memory, wherever they go. An insert opens at most one block, and
-- since blocks hold 64 at least, many inserts open one in 64.
abbrev pub room_of : Layout → ℕ
room_of l = min l.slots (max l.spare (64 * (length l.blocks + l.spare) - length l.flags))

-- the flag of a number
abbrev pub flag_of : List Bool → ℕ → Bool
flag_of flags k = slice_index_or flags k false

-- the flags of numbers, in their order
abbrev pub flags_of : List Bool → List ℕ → List Bool
flags_of flags ks = map (flag_of flags) ks

-- how many of the numbers have their flag down
abbrev pub count_visible : List Bool → List ℕ → ℕ
count_visible flags ks = length (filter not (flags_of flags ks))

-- No number is in the list twice.
abbrev pub Once : List ℕ → Type 0
Once [] = Unit {0}
Once (k ∷ ks) = (In k ks → ⊥) × Once ks

-- The list has the numbers below n and no others, each once.
pub record IsNumbered (n : ℕ) (ks : List ℕ) : Type 0 where
  pub below : (k : ℕ) → In k ks → k < n
  pub there : (k : ℕ) → k < n → In k ks
  pub many : length ks ≡ n
  pub once : Once ks

-- the blocks of a pool in an order of their numbers
abbrev pub blocks_in_order : List (List ℕ) → List ℕ → List (List ℕ)
blocks_in_order pool order = map (block_at pool) order

-- The order has each block of the pool once; the home of each number is the block that holds it; the blocks hold
-- each number once; the counts are those of the flags that are down.
pub record PoolInvariant (pool : List (List ℕ)) (order visible home : List ℕ) (flags : List Bool) : Type 0 where
  pub ordered : IsNumbered (length pool) order
  pub homes : length home ≡ length flags
  pub at_home : (k : ℕ) → k < length flags → slice_index_or home k 0 < length pool
  pub housed : (k : ℕ) → k < length flags → In k (block_at pool (slice_index_or home k 0))
  pub numbered : IsNumbered (length flags) (concat_blocks (blocks_in_order pool order))
  pub counted : visible ≡ map (count_visible flags) (blocks_in_order pool order)
  pub sized : AreSized (blocks_in_order pool order)
