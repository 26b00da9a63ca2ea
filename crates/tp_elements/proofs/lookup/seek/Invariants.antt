use Rattle.std.proofs.Common.{◌≡◌, ℕ, ◌<◌, ◌≤◌, length}
use Rattle.tp_elements.specs.Indexed.{actor_of_element, counter_of_element}
use Rattle.tp_elements.proofs.lookup.seek.Given as goal

-- what was passed has a greater counter
abbrev pub invariant-steps : goal.invariant-steps
invariant-steps l = (l.at < length l.entries.items) × (actor_of_element l.entries.items l.at ≡ actor_of_element l.entries.items l.from) × ((j : ℕ) → j ≤ l.from → actor_of_element l.entries.items j ≡ actor_of_element l.entries.items l.from → counter_of_element l.entries.items j ≤ l.counter → j ≤ l.at)

abbrev pub decreases-steps : goal.decreases-steps
decreases-steps l = l.at
