-- Counts in an order: what contracts see of them, and what always holds of the sums that are kept beside them.
use Rattle.std.specs.Prelude.{◌≡◌, ℕ, ◌+◌, ◌-◌, ◌*◌, ◌^◌, ◌<◌, ◌≤◌, List, length, take, sum, insert, slice_set, slice_index_or}

-- the counts, and how many more can be put in without further memory
pub record CountsState : Type 0 where
  pub counts : List ℕ
  pub room : ℕ

-- the counts with something taken off one, and put in after it
abbrev pub split_at : List ℕ → ℕ → ℕ → List ℕ
split_at counts i back = insert (slice_set counts i (slice_index_or counts i 0 - back)) (i + 1) back

-- how many counts a group has, and how many groups a range
abbrev pub group_size : ℕ
group_size = 128

abbrev pub range_size : ℕ
range_size = 16

-- The sums are those of the groups, each of `size` counts that follow one another, as far as there are sums.
abbrev pub AreSums : ℕ → List ℕ → List ℕ → Type 0
AreSums size counts sums = (g : ℕ) → g ≤ length sums → sum (take g sums) ≡ sum (take (size * g) counts)

-- Each group has its sum, and there are no further ones.
pub record IsGrouped (size : ℕ) (counts sums : List ℕ) : Type 0 where
  pub fits : sum counts < 2 ^ 32
  pub many : length counts ≤ size * length sums
  pub few : size * length sums < length counts + size
  pub summed : AreSums size counts sums

-- Each group of counts has its sum, and each range of groups.
pub record IsSummed (counts sums range_sums : List ℕ) : Type 0 where
  pub groups : IsGrouped group_size counts sums
  pub ranges : IsGrouped range_size sums range_sums
