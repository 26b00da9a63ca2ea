use Rattle.std.proofs.Common.{◌≡◌, ◌≤◌, ◌<◌, ◌-◌, ℕ, [], false, length, map}
use Rattle.std.specs.Prelude.{slice_index_or}
use Rattle.tp_command_line.specs.Asking.{ends_search as search_end}
use Rattle.tp_command_line.proofs.asking.explain_at.Given as goal

-- no word before it ends the search
abbrev pub invariant-loop-at : goal.invariant-loop-at
invariant-loop-at l = (l.at ≤ length l.words) × ((k : ℕ) → k < l.at → search_end (slice_index_or (map (λ t. t.now) l.words) k []) ≡ false)

abbrev pub decreases-loop-at : goal.decreases-loop-at
decreases-loop-at l = length l.words - l.at
