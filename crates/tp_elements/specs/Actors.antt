-- Each actor's latest element, in the order of the actors.
use Rattle.std.specs.Prelude.{◌≡◌, ℕ, ◌<◌, ◌≤◌, List, [], length, slice_index_or}
use Rattle.std.specs.declared.cmp.Ordering.TheVariants.{Less}
use Rattle.tp_opid.specs.declared.actor.Actor.{Actor}
use Rattle.tp_opid.specs.Order.{actor_cmp}
use Rattle.tp_elements.specs.declared.links.Latest.{Latest}

-- the entry at an index
abbrev pub latest_at : List Latest → ℕ → Latest
latest_at latest i = slice_index_or latest i (record { actor = record { 0 = [] }; number = 0 })

-- Each entry's actor is before those of the entries after it.
abbrev pub AreByActor : List Latest → Type 0
AreByActor latest = (j k : ℕ) → j < k → k < length latest → actor_cmp (latest_at latest j).actor (latest_at latest k).actor ≡ Less

-- The entries before the i-th are of actors that are before a, the others of actors after it.
pub record IsPlaceOf (latest : List Latest) (a : Actor) (i : ℕ) : Type 0 where
  pub within : i ≤ length latest
  pub before : (k : ℕ) → k < i → actor_cmp (latest_at latest k).actor a ≡ Less
  pub beyond : (k : ℕ) → i ≤ k → k < length latest → actor_cmp a (latest_at latest k).actor ≡ Less
