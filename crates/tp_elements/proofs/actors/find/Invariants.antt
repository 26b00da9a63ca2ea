use Rattle.std.proofs.Common.{◌≡◌, ℕ, ◌-◌, ◌<◌, ◌≤◌, length}
use Rattle.std.specs.declared.cmp.Ordering.TheVariants.{Less}
use Rattle.tp_opid.specs.Order.{actor_cmp}
use Rattle.tp_elements.specs.Actors.{latest_at}
use Rattle.tp_elements.proofs.actors.find.Given as goal

-- the actors before `low` are less, and those from `high` on greater
abbrev pub invariant-loop-low : goal.invariant-loop-low
invariant-loop-low l = (l.low ≤ l.high) × (l.high ≤ length l.latest)
    × ((k : ℕ) → k < l.low → actor_cmp (latest_at l.latest k).actor l.actor ≡ Less)
    × ((k : ℕ) → l.high ≤ k → k < length l.latest → actor_cmp l.actor (latest_at l.latest k).actor ≡ Less)

abbrev pub decreases-loop-low : goal.decreases-loop-low
decreases-loop-low l = l.high - l.low
