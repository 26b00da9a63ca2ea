use Rattle.tp_history.proofs.Common.{◌≡◌, ◌≢◌, ℕ, ◌<◌, ◌≤◌, Some, slice_get, NOWHERE}
use Rattle.tp_history.proofs.index.free.Given as goal

abbrev pub invariant-loop-number : goal.invariant-loop-number
invariant-loop-number l = (k : ℕ) → k < l.number → l.first ≤ k → (s : ℕ) → slice_get l.slots k ≡ Some s → s ≢ NOWHERE
