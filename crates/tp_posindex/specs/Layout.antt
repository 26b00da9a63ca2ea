-- A list that is cut into blocks.
use Rattle.std.specs.Prelude.{◌≡◌, ℕ, ◌+◌, ◌<◌, ◌≤◌, ◌⊎◌, List, [], ◌∷◌, ◌++◌, length, take, Some, slice_get, slice_index_or}
use Rattle.tp_list.specs.Members.{In}

-- the blocks one after another
abbrev pub concat_blocks : {X : Type 0} → List (List X) → List X
concat_blocks [] = []
concat_blocks (b ∷ bs) = b ++ concat_blocks bs

-- the block numbered p
abbrev pub block_at : {X : Type 0} → List (List X) → ℕ → List X
block_at bs p = slice_index_or bs p []

-- the index in the whole list of what is at an offset of the block numbered p
abbrev pub index_at : {X : Type 0} → List (List X) → ℕ → ℕ → ℕ
index_at bs p offset = length (concat_blocks (take p bs)) + offset

-- An offset of the block numbered p at which a new element may be put in; where there is no block yet, any block's
-- start.
pub record IsGap {X : Type 0} (bs : List (List X)) (p offset : ℕ) : Type 0 where
  pub block : (p < length bs) ⊎ (bs ≡ [])
  pub offset_in : offset ≤ length (block_at bs p)

-- Before an offset of the block numbered p, or at its end, there are k elements.
pub record IsAfter {X : Type 0} (bs : List (List X)) (p offset k : ℕ) : Type 0 where
  pub block : p < length bs
  pub offset_in : offset ≤ length (block_at bs p)
  pub before : index_at bs p offset ≡ k

-- x is at an offset of the block numbered p.
pub record StandsAt {X : Type 0} (bs : List (List X)) (p offset : ℕ) (x : X) : Type 0 where
  pub block : p < length bs
  pub at : slice_get (block_at bs p) offset ≡ Some x

-- how many elements a block holds at most, and how many each of several blocks holds at least
abbrev pub most : ℕ
most = 128

abbrev pub least : ℕ
least = 64

-- Every block holds from 1 to 128 elements, and each of several blocks at least 64.
pub record AreSized {X : Type 0} (bs : List (List X)) : Type 0 where
  pub some : (b : List X) → In b bs → 1 ≤ length b
  pub few : (b : List X) → In b bs → length b ≤ most
  pub half : 1 < length bs → (b : List X) → In b bs → least ≤ length b
